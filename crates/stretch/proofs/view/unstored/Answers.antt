-- `view::unstored` meets its contract: eight places, of which the stores are the first. Assumes nothing.
use Rattle.stretch.specs.Stretch.{held_in}
use Rattle.stretch.proofs.Showing.{each-other}
use native.Mathlib.Omega.{arith}
use Rattle.stretch.proofs.view.unstored.Goals as goal

pub returns : goal.returns
returns c =
    let a = c.args in
    let w = c.requires.words in
    each-other (held_in a.at a.row.now) a.v (omega (arith, w.stores, w.room))
    c.other_store-one.ensures c.other_store-two.ensures
    c.other_store-three.ensures c.other_store-four.ensures
    c.other_store-five.ensures c.other_store-six.ensures c.other_store-seven.ensures c.other_store-eight.ensures
