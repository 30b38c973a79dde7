-- `nodes::node` meets its contract, field by field. Assumes nothing.
use native.Mathlib.Omega.{arith}
use Rattle.nodes.proofs.Words.{word_at}
use Rattle.nodes.proofs.node.Goals as goal

pub returns : goal.returns
returns c =
    let h = c.requires in
    let word = word_at h.0 h.1 c.offset-at.ensures.0 in
    λ t. record {
      state = c.state_of.ensures t;
      owner = word 1 (omega arith) t;
      guest = word 2 (omega arith) t;
      retired_at = word 3 (omega arith) t;
      limbo = word 4 (omega arith) t;
    }
