-- `domain::clock` meets its contract: the head is decoded from these words. Assumes nothing.
use Rattle.layout.specs.Encode.{decode_by}
use borrow.Author.Rules.{rules}
use Rattle.domain.proofs.clock.Goals as goal

pub returns : goal.returns
unfolding decode_by
returns c = search rules
