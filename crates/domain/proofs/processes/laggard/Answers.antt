-- `processes::laggard` meets its contract: none so far lags, and the first that does is the way out. Assumes nothing.
use Rattle.domain.proofs.Seeking.{look-starts}
use Rattle.domain.proofs.processes.laggard.Goals as goal

pub loop-q-init : goal.loop-q-init
loop-q-init c = look-starts c.requires c.bounds-n.ensures
