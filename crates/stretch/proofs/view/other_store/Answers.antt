-- `view::other_store` meets its contract: the word is the store's, where there is one. Assumes nothing.
use Prim.Native.Nat.{ℕ}
use mathlib.Core.Bool.{not}
use mathlib.Core.Path.{ap}
use lib.Dec.{eqb}
use Rattle.stretch.proofs.Stores.{stored_at}
use native.Mathlib.Omega.{arith}
use Rattle.stretch.proofs.view.other_store.Goals as goal

pub returns : goal.returns
returns c =
    let h = c.requires.0 in
    λ l. ap (λ (n : ℕ). not (eqb n c.args.v)) (stored_at _ _ h.words _ l _ (omega (arith, h.stores)))
