-- A sweep over a list: what passes a test is replaced. Assumes nothing.
use Rattle.std.specs.Prelude.{ℕ, suc, Bool, cond, List, [], ◌∷◌, set}

-- the elements that pass, each with its place, the first being i, become z
abbrev pub sweep_from : {A : Type 0} → A → (ℕ → A → Bool) → ℕ → List A → List A
sweep_from z f i [] = []
sweep_from z f i (x ∷ xs) = cond (f i x) z x ∷ sweep_from z f (suc i) xs

-- the places that pass, in order
abbrev pub places_from : {A : Type 0} → (ℕ → A → Bool) → ℕ → List A → List ℕ
places_from f i [] = []
places_from f i (x ∷ xs) = cond (f i x) (i ∷ places_from f (suc i) xs) (places_from f (suc i) xs)

-- z at each of these places
abbrev pub set_each : {A : Type 0} → A → List ℕ → List A → List A
set_each z [] l = l
set_each z (c ∷ cs) l = set_each z cs (set l c z)
