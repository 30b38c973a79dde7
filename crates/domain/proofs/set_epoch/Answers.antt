-- `domain::set_epoch` meets its contract: one word of the head is written. Assumes nothing.
use Rattle.domain.proofs.Head.{epoch-written}
use Rattle.domain.proofs.set_epoch.Goals as goal

pub returns : goal.returns
returns c = epoch-written c.requires _
