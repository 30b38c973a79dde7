-- `shown::first` meets its contract: none of the nodes so far is it, and the first that is, is the way out. Assumes nothing.
use lib.Dec.{eqb}
use Rattle.lists.proofs.First.{Seeking}
use Rattle.retire.proofs.shown.first.Given as goal

abbrev pub invariant-loop-h : goal.invariant-loop-h
invariant-loop-h l = Seeking (λ _ u. eqb u l.v) l.nodes l.h
