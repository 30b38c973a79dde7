-- A loop that changes the elements of a list by a function, one after the other. Assumes nothing.
use Prim.Native.Nat.{ℕ, zero, suc, ◌<◌, ◌≤◌}
use mathlib.Core.List.{List, [], ◌∷◌, ◌++◌, map, append-nil}
use mathlib.Core.Path.{◌≡◌, refl, ap}
use native.Mathlib.Omega.{arith}
use lib.ListN.{length, get_or, set, take, drop, drop_of_length-le}
use lib.Seq.{take_all}

module _ {A : Type 0} (f : A → A) where
  -- the elements up to i changed, the others as they were
  abbrev pub mapped_to : ℕ → List A → List A
  mapped_to i l = map f (take i l) ++ drop i l

  pub mapped-turn : (l : List A) (i : ℕ) (d : A) → i < length l → set (mapped_to i l) i (f (get_or (mapped_to i l) i d)) ≡ mapped_to (suc i) l
  mapped-turn [] i d h = absurd (omega arith)
  mapped-turn (x ∷ xs) zero d h = refl
  mapped-turn (x ∷ xs) (suc i) d h = ap (λ (r : List A). f x ∷ r) (mapped-turn xs i d (omega arith))

  pub mapped-all : (l : List A) (i : ℕ) → length l ≤ i → mapped_to i l ≡ map f l
  mapped-all l i h = rw (take_all i l h, drop_of_length-le l h, append-nil)
