-- `domain::sweep_expired` meets its contract: the part that comes back holds the nodes swept. Assumes nothing.
use Rattle.layout.specs.Encode.{decode_by}
use Rattle.domain.proofs.Nodes.{swept-back}
use Rattle.domain.proofs.sweep_expired.Goals as goal

pub returns : goal.returns
unfolding decode_by
returns c =
    swept-back c.requires _ c.nodes_at-a.ensures.value _ _ _ c.sweep_expired.ensures
