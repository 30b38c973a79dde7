-- `domain::reach` meets its contract: the part lent holds the nodes. Assumes nothing.
use mathlib.Core.List.{List}
use mathlib.Core.Path.{subst}
use Rattle.model.specs.State.{Node}
use Rattle.model.specs.Retire.{retired_by}
use Rattle.layout.specs.Encode.{params_in}
use Rattle.nodes.specs.Portions.{Reached}
use Rattle.domain.proofs.Nodes.{lent-nodes}
use Rattle.domain.proofs.reach.Goals as goal

pub returns : goal.returns
returns c =
    let a = c.args in
    subst (λ (ns : List Node). Reached (retired_by a.p.0) a.limit a.c.0 (params_in a.words.now).nodes ns c.reach.result)
    (lent-nodes c.requires.0 _ c.nodes_at-a.ensures.value) c.reach.ensures
