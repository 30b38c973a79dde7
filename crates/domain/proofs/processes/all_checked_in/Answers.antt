-- `processes::all_checked_in` meets its contract: all processes so far pass, and one that does not is the way out. Assumes nothing.
use Rattle.domain.proofs.Passing.{starts}
use Rattle.domain.proofs.processes.all_checked_in.Goals as goal

pub loop-p-init : goal.loop-p-init
loop-p-init c = starts c.requires c.bounds-n.ensures
