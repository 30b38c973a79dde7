-- `retire::marks::mark_all` meets its contract: the nodes passed are marked, and the others make all of them. Assumes nothing.
use lib.ListN.{drop}
use Rattle.retire.proofs.MarkedTo.{MarkedTo}
use Rattle.retire.proofs.marks.mark_all.Given as goal

abbrev pub invariant-loop-v : goal.invariant-loop-v
invariant-loop-v l = MarkedTo (λ j. drop j l.nodes) 0 l.v-index l.initial.marks l.marks
