-- `domain::none_under_way` meets its contract: the part lent holds the nodes. Assumes nothing.
use mathlib.Core.Path.{◌∙◌, ap}
use Rattle.lists.specs.Tests.{every}
use Rattle.domain.proofs.Nodes.{lent-nodes}
use Rattle.domain.proofs.none_under_way.Goals as goal

pub returns : goal.returns
returns c = c.none_under_way.ensures ∙ ap (every _) (lent-nodes c.requires _ c.nodes_at-a.ensures.value)
