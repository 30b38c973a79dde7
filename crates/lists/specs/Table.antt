-- A table by its rule. Assumes nothing.
use Rattle.std.specs.Prelude.{ℕ, zero, suc, List, [], ◌∷◌}

-- n rows, the first being f i
abbrev pub table_from : {X : Type 0} → (ℕ → X) → ℕ → ℕ → List X
table_from f i zero = []
table_from f i (suc n) = f i ∷ table_from f (suc i) n
