-- A flat list of numbers as a list of rows, and a record as a row of a fixed width. Assumes nothing.
use Rattle.std.specs.Prelude.{ℕ, zero, suc, Bool, true, List, [], ◌∷◌, ◌++◌, ◌≡◌, length, take, drop}

-- the rows of xs, one after the other
abbrev pub rows : {X : Type 0} → (X → List ℕ) → List X → List ℕ
rows put [] = []
rows put (x ∷ xs) = put x ++ rows put xs

-- n rows of w numbers, read off the front of a list
abbrev pub unrows : {X : Type 0} → (List ℕ → X) → ℕ → ℕ → List ℕ → List X
unrows get w zero ws = []
unrows get w (suc n) ws = get (take w ws) ∷ unrows get w n (drop w ws)

-- X as w numbers, and back. Only what it holds is read back as it was: a codec may leave out a part of X that is always the same
pub record Codec (X : Type 0) (w : ℕ) : Type 0 where
  pub put : X → List ℕ
  pub get : List ℕ → X
  pub holds : X → Bool
  pub width : (x : X) → length (put x) ≡ w
  pub back : (x : X) → holds x ≡ true → get (put x) ≡ x
  pub forth : (r : List ℕ) → length r ≡ w → put (get r) ≡ r
  -- only the first w numbers are read
  pub front : (r : List ℕ) → get (take w r) ≡ get r
