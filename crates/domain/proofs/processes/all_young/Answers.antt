-- `processes::all_young` meets its contract: the flag says whether all processes so far pass. Assumes nothing.
use Rattle.domain.proofs.Passing.{starts}
use Rattle.domain.proofs.processes.all_young.Goals as goal

pub loop-p-init : goal.loop-p-init
loop-p-init c = starts c.requires c.bounds-n.ensures
