-- `trace::word_at` meets its contract: the four bytes, the lowest first. Assumes nothing.
use Rattle.std.proofs.Common.{arith, ◌∙◌}
use Rattle.trace.specs.Bytes.{word_at}
use Rattle.trace.proofs.word_at.Goals as goal

pub returns : goal.returns
unfolding word_at
returns c = c.from_le_bytes.ensures ∙ omega arith
