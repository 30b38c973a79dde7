-- `domain::hand_over` meets its contract: the part that comes back holds the nodes so changed. Assumes nothing.
use mathlib.Core.List.{map}
use mathlib.Core.Path.{◌∙◌}
use Rattle.model.specs.State.{with_nodes}
use Rattle.model.specs.Leave.{handed}
use Rattle.layout.specs.Encode.{encode, decode, decode_by}
use Rattle.domain.proofs.Nodes.{nodes-back}
use Rattle.domain.proofs.hand_over.Goals as goal

pub returns : goal.returns
unfolding decode_by
returns c =
    let a = c.args in
    let ws = a.words.now in
    nodes-back c.requires.0 _ c.nodes_at-a.ensures.value (map (handed a.p.0 a.q.0 _ _)) _ c.hand_over.ensures
    ∙ (λ t. encode (with_nodes (decode ws) (map (handed a.p.0 a.q.0 (decode ws).clock (c.lead-epoch.ensures t).epoch) (decode ws).nodes)))
