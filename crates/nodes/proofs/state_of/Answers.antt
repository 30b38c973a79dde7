-- `nodes::state_of` meets its contract: the state is the first word of a node. Assumes nothing.
use native.Mathlib.Omega.{arith}
use Rattle.nodes.proofs.Words.{word_at}
use Rattle.nodes.proofs.state_of.Goals as goal

pub returns : goal.returns
returns c = let h = c.requires in word_at h.0 h.1 c.offset.ensures.0 0 (omega arith)
