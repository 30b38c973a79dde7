-- `domain::set_path` meets its contract: one word of the head is written. Assumes nothing.
use Rattle.domain.proofs.Head.{path-written}
use Rattle.domain.proofs.set_path.Goals as goal

pub returns : goal.returns
returns c = path-written c.requires _
