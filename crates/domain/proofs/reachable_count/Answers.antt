-- `domain::reachable_count` meets its contract: the part lent holds the nodes. Assumes nothing.
use mathlib.Core.Path.{◌∙◌, ap}
use Rattle.lists.specs.Tests.{count}
use Rattle.domain.proofs.Nodes.{lent-nodes}
use Rattle.domain.proofs.reachable_count.Goals as goal

pub returns : goal.returns
returns c = c.reachable_count.ensures ∙ ap (count _) (lent-nodes c.requires _ c.nodes_at-a.ensures.value)
