-- `domain::set_clock` meets its contract: one word of the head is written. Assumes nothing.
use Rattle.domain.proofs.Head.{clock-written}
use Rattle.domain.proofs.set_clock.Goals as goal

pub returns : goal.returns
returns c = clock-written c.requires _
