-- `nodes::set_state` meets its contract: the state is the first word of a node. Assumes nothing.
use Rattle.nodes.proofs.Words.{state-set}
use Rattle.nodes.proofs.set_state.Goals as goal

pub returns : goal.returns
returns c = let h = c.requires in state-set h.0 h.1 c.offset-at.ensures.0 _
