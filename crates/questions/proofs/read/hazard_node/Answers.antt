-- `questions::read::hazard_node` meets its contract: an assigned node is one of the nodes. Assumes nothing.
use Rattle.std.proofs.Common.{arith}
use Rattle.questions.proofs.PastLast.{target_below}
use Rattle.questions.proofs.read.hazard_node.Goals as goal

pub node-requires : goal.node-requires
node-requires c = (c.requires, omega (arith, target_below c.requires _ _ c.hazard.ensures, c.saturating_sub-node.ensures))
