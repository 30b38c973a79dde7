-- `view::may_show` meets its contract: what is neither visible nor stored is not shown. Assumes nothing.
use Rattle.stretch.specs.Stretch.{held_in}
use Rattle.stretch.proofs.Showing.{not-shown}
use Rattle.stretch.proofs.view.may_show.Goals as goal

pub returns : goal.returns
returns c =
    let a = c.args in
    not-shown (held_in a.at a.row.now) a.v _ _ c.shows-visible.ensures c.unstored-clear.ensures
