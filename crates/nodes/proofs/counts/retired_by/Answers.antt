-- `counts::retired_by` meets its contract: two pairs of words are equal where the words are. Assumes nothing.
use mathlib.Core.Bool.{◌&&◌}
use mathlib.Core.Path.{◌∙◌}
use native.Mathlib.Omega.{arith}
use lib.Dec.{eqb}
use Rattle.lists.proofs.Compares.{eqb-pair}
use Rattle.nodes.proofs.Words.{word_at}
use Rattle.nodes.proofs.counts.retired_by.Goals as goal

pub returns : goal.returns
returns c =
    let h = c.requires in
    let owner = word_at h.0 h.1 c.offset-at.ensures.0 1 (omega arith) in
    eqb-pair _ _ _ _ c.pair.ensures.0 c.pair-2.ensures.0 c.pair.ensures.1 c.pair-2.ensures.1
    ∙ (λ t. eqb (c.state_of.ensures t) (c.into.ensures t) && eqb (owner t) c.args.p.0)
