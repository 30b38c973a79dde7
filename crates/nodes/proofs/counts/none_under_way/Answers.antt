-- `counts::none_under_way` meets its contract. The flag says whether none of the first i nodes is under way. Assumes nothing.
use Rattle.nodes.proofs.Passing.{ends}
use Rattle.nodes.proofs.counts.none_under_way.Goals as goal

pub returns : goal.returns
returns c = ends c.loop-i.invariant c.loop-i-test.false
