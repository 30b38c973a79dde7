-- `stretch::unassigned` meets its contract. The invariant: ok says whether the first h hazards are unassigned. Assumes nothing.
use Prim.Native.Nat.{ℕ}
use mathlib.Core.Path.{sym, ap}
use native.Mathlib.Omega.{arith}
use lib.Dec.{eqb}
use Rattle.lists.proofs.Tested.{tested-more, tested-all}
use Rattle.model.specs.State.{empty_hazard}
use Rattle.stretch.proofs.Words.{hazard-word, hazards-length}
use Rattle.stretch.proofs.unassigned.Goals as goal

pub loop-h-preserved : goal.loop-h-preserved
loop-h-preserved c =
    let a = c.args in
    let h = c.requires in
    tested-more empty_hazard c.loop-h.invariant (omega (arith, hazards-length a.at.k a.row.now))
    (ap (λ (n : ℕ). eqb n 0) (sym (hazard-word _ _ _ 1 _ (omega (arith, h.words.long)) (omega arith) (omega arith) (omega (arith, h.hazards)))))

pub returns : goal.returns
returns c =
    let a = c.args in
    tested-all c.loop-h.invariant (omega (arith, hazards-length a.at.k a.row.now))
