-- `processes::clear_presence` meets its contract: the presence words of the processes passed are 0, the others as they were. Assumes nothing.
use Rattle.domain.proofs.Clearing.{Clearing}
use Rattle.domain.proofs.processes.clear_presence.Given as goal

abbrev pub invariant-loop-p : goal.invariant-loop-p
invariant-loop-p l = Clearing l.initial.words l.words l.n l.p
