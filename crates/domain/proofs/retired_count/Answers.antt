-- `domain::retired_count` meets its contract: the part lent holds the nodes. Assumes nothing.
use mathlib.Core.List.{List}
use mathlib.Core.Path.{◌∙◌, ap}
use lib.ListN.{drop}
use Rattle.model.specs.State.{Node}
use Rattle.model.specs.Retire.{retired_by}
use Rattle.lists.specs.Tests.{count}
use Rattle.domain.proofs.Nodes.{lent-nodes}
use Rattle.domain.proofs.retired_count.Goals as goal

pub returns : goal.returns
returns c =
    c.retired_count.ensures
    ∙ ap (λ (ns : List Node). count (retired_by c.args.p.0) (drop c.args.from ns)) (lent-nodes c.requires.0 _ c.nodes_at-a.ensures.value)
