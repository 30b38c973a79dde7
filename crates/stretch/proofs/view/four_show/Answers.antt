-- `view::four_show` meets its contract: four hazards. Assumes nothing.
use Rattle.stretch.specs.Stretch.{held_in}
use Rattle.stretch.proofs.Showing.{hide-four}
use Rattle.stretch.proofs.view.four_show.Goals as goal

pub returns : goal.returns
returns c =
    let a = c.args in
    hide-four (held_in a.at a.row.now) a.v a.h _ _ _ _
    c.shows_at-one.ensures c.shows_at-two.ensures c.shows_at-three.ensures c.shows_at-four.ensures
