-- A table that is its rule row by row, at one row. Assumes nothing.
use Prim.Native.Nat.{ℕ, zero, suc, ◌+◌, ◌<◌}
use mathlib.Core.List.{List}
use mathlib.Core.Path.{◌≡◌, sym, ◌∙◌, ap}
use native.Mathlib.Omega.{arith}
use native.Mathlib.Nat.{add-zero, zero-add, add-suc, suc-add}
use lib.ListN.{get_or}
use Rattle.lists.specs.Table.{table_from}

from : {X : Type 0} (f : ℕ → X) (i n k : ℕ) (d : X) → k < n → get_or (table_from f i n) k d ≡ f (i + k)
from f i zero k d h = absurd (omega arith)
from f i (suc n) zero d h = ap f (sym (add-zero i))
from f i (suc n) (suc k) d h = from f (suc i) n k d (omega arith) ∙ ap f (suc-add i k ∙ sym (add-suc i k))

pub table_at : {X : Type 0} (f : ℕ → X) (table : List X) (n k : ℕ) (d : X) → table ≡ table_from f 0 n → k < n → get_or table k d ≡ f k
table_at f table n k d e h = ap (λ t. get_or t k d) e ∙ from f 0 n k d h ∙ ap f (zero-add k)
