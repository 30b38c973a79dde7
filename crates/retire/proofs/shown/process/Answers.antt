-- `shown::process` meets its contract: none so far shows it, and the first that does is the way out. Assumes nothing.
use Rattle.domain.proofs.Seeking.{look-starts}
use Rattle.retire.proofs.shown.process.Goals as goal

pub loop-q-init : goal.loop-q-init
loop-q-init c = look-starts c.requires c.bounds-n.ensures
