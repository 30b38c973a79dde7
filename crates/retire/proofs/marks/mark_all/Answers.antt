-- `retire::marks::mark_all` meets its contract: the nodes passed are marked, and the others make all of them. Assumes nothing.
use mathlib.Core.List.{[], ◌∷◌}
use mathlib.Core.Path.{refl}
use native.Mathlib.Omega.{arith}
use lib.ListN.{get_or}
use Rattle.retire.specs.Marks.{marking}
use Rattle.retire.proofs.MarkedTo.{turn, ends, left-all, left-none}
use Rattle.retire.proofs.marks.mark_all.Goals as goal

pub loop-v-preserved : goal.loop-v-preserved
unfolding marking
loop-v-preserved c =
    let nodes = c.args.nodes.now in
    let i = c.loop-v.v-index in
    turn (get_or nodes i 0 ∷ []) c.loop-v.invariant (left-all nodes i (omega arith)) c.mark.ensures

pub returns : goal.returns
returns c =
    let nodes = c.args.nodes.now in
    ends c.loop-v.invariant (left-none (λ l. l) nodes c.loop-v.v-index refl (omega arith))
