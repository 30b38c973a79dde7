-- `processes::all_young` meets its contract: the flag says whether all processes so far pass. Assumes nothing.
use Rattle.layout.specs.Encode.{decode}
use Rattle.model.specs.Hazards.{young}
use Rattle.domain.proofs.Passing.{Passing}
use Rattle.domain.proofs.processes.all_young.Given as goal

abbrev pub invariant-loop-p : goal.invariant-loop-p
invariant-loop-p l = Passing (young (decode l.words)) l.words l.n l.p l.ok
