-- `waiting::reason_of` meets its contract: the state of a node of sound words is at most Retired. Assumes nothing.
use mathlib.Core.Path.{ap}
use native.Mathlib.Omega.{arith}
use Rattle.model.proofs.WellFormed.{node_fits_lem}
use Rattle.layout.specs.Encode.{decode_by}
use Rattle.waiting.proofs.reason_of.Goals as goal

pub state_of-requires : goal.state_of-requires
unfolding decode_by
state_of-requires c =
    let state = ap (λ n. n.state) c.node-node.ensures in
    omega (arith, state, (node_fits_lem c.requires.0.domain c.args.c.0 c.requires.1).state)
