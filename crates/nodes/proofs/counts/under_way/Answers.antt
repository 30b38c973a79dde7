-- `counts::under_way` meets its contract: the state is the first word of a node, the owner the second. Assumes nothing.
use mathlib.Core.Bool.{◌&&◌, ◌||◌}
use lib.Dec.{eqb}
use Rattle.nodes.proofs.Words.{word_at}
use native.Mathlib.Omega.{arith}
use Rattle.nodes.proofs.counts.under_way.Goals as goal

pub returns : goal.returns
returns c =
    let owner = word_at c.requires.0 c.requires.1 c.offset-at.ensures.0 1 (omega arith) in
    let state = c.state_of-state.ensures in
    λ t. (eqb (state t) (c.from.ensures t) || eqb (state t) (c.from-2.ensures t)) && eqb (owner t) c.args.p.0
