-- `view::shows_at` meets its contract: the word is the hazard's. Assumes nothing.
use Prim.Native.Nat.{ℕ}
use mathlib.Core.Path.{sym, ap}
use native.Mathlib.Omega.{arith}
use lib.Dec.{eqb}
use Rattle.stretch.proofs.Words.{hazard-word}
use Rattle.stretch.proofs.view.shows_at.Goals as goal

pub returns : goal.returns
returns c =
    let a = c.args in
    let h = c.requires in
    ap (λ (n : ℕ). eqb n a.v) (sym (hazard-word _ _ _ 0 _ (omega (arith, h.0.words.long)) h.1 (omega arith) (omega (arith, h.0.hazards))))
