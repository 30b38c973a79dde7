-- `domain::node` meets its contract: the part lent holds the nodes. Assumes nothing.
use mathlib.Core.Path.{◌∙◌, ap}
use lib.ListN.{get_or}
use Rattle.model.specs.State.{free_node}
use Rattle.domain.proofs.Nodes.{lent-nodes}
use Rattle.domain.proofs.node.Goals as goal

pub returns : goal.returns
returns c =
    c.node.ensures ∙ ap (λ ns. get_or ns c.args.c.0 free_node) (lent-nodes c.requires.0 _ c.nodes_at-a.ensures.value)
