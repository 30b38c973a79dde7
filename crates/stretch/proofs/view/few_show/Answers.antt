-- `view::few_show` meets its contract. The invariant: found says whether one of the first h hazards shows the node. Assumes nothing.
use mathlib.Core.Path.{refl}
use Rattle.lists.specs.Upto.{all_upto}
use Rattle.stretch.specs.Stretch.{held_in}
use Rattle.stretch.proofs.Showing.{hide-more}
use Rattle.stretch.proofs.view.few_show.Goals as goal

pub loop-h-init : goal.loop-h-init
unfolding all_upto
loop-h-init c = refl

pub loop-h-preserved : goal.loop-h-preserved
loop-h-preserved c =
    let a = c.args in
    let l = c.loop-h in
    hide-more (held_in a.at a.row.now) a.v l.h _ _ l.invariant c.shows_at-found.ensures
