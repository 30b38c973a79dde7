-- `domain::set_node` meets its contract: the part that comes back holds the nodes with this one. Assumes nothing.
use lib.ListN.{set}
use Rattle.layout.specs.Values.{node_value}
use Rattle.domain.proofs.Nodes.{nodes-back}
use Rattle.domain.proofs.set_node.Goals as goal

pub returns : goal.returns
returns c =
    let a = c.args in
    nodes-back c.requires.0 _ c.nodes_at-a.ensures.value (λ ns. set ns a.c.0 (node_value a.x)) _ c.put.ensures
