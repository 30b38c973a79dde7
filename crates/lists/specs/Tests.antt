-- Tests and facts over the elements of a list. Assumes nothing.
use Rattle.std.specs.Prelude.{ℕ, zero, suc, ◌+◌, Bool, true, false, not, ◌&&◌, cond, List, [], ◌∷◌, eqb}

-- a test that is made only where the first holds
abbrev pub implies : Bool → Bool → Bool
implies true b = b
implies false b = true

-- every element passes
abbrev pub every : {A : Type 0} → (A → Bool) → List A → Bool
every f [] = true
every f (x ∷ xs) = f x && every f xs

-- v is none of the numbers
abbrev pub lacks : List ℕ → ℕ → Bool
lacks l v = every (λ u. not (eqb u v)) l

-- how many pass
abbrev pub count : {A : Type 0} → (A → Bool) → List A → ℕ
count f [] = 0
count f (x ∷ xs) = cond (f x) 1 0 + count f xs

-- how many pass, each with its place, the first being i
abbrev pub count_from : {A : Type 0} → (ℕ → A → Bool) → ℕ → List A → ℕ
count_from f i [] = 0
count_from f i (x ∷ xs) = cond (f i x) 1 0 + count_from f (suc i) xs

-- the place of the first that passes, each with its place, the first being i; the place after the last where none does
abbrev pub first_from : {A : Type 0} → (ℕ → A → Bool) → ℕ → List A → ℕ
first_from f i [] = i
first_from f i (x ∷ xs) = cond (f i x) i (first_from f (suc i) xs)

-- the place after the l-th that passes, the first being i; the place after the last where fewer do
abbrev pub past_from : {A : Type 0} → (A → Bool) → ℕ → ℕ → List A → ℕ
past_from f zero i xs = i
past_from f (suc l) i [] = i
past_from f (suc l) i (x ∷ xs) = cond (f x) (past_from f l (suc i) xs) (past_from f (suc l) (suc i) xs)

-- a fact of every element
abbrev pub All : {A : Type 0} → (A → Type 0) → List A → Type 0
All P [] = Unit {0}
All P (x ∷ xs) = P x × All P xs
