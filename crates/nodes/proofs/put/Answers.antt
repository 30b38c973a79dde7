-- `nodes::put` meets its contract: the state is set by `set_state`, and the four words after it are the rest of the node. Assumes nothing.
use native.Mathlib.Numerals.{towards_suc}
use Rattle.nodes.proofs.Words.{rest-set}
use Rattle.nodes.proofs.put.Goals as goal

pub returns : goal.returns
returns c =
    let h = c.requires in
    simp towards_suc
    (rest-set h.0 h.1 c.offset-at.ensures.0 _ c.set_state.ensures)
