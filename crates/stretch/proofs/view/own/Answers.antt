-- `view::own` meets its contract: what the hazards show, with every pending store put over it. Assumes nothing.
use mathlib.Core.Path.{ap, ◌∙◌}
use Rattle.stretch.specs.Stretch.{held_in}
use Rattle.stretch.specs.View.{overlaid}
use Rattle.stretch.proofs.Viewed.{overlaid-own}
use Rattle.stretch.proofs.view.own.Goals as goal

pub returns : goal.returns
returns c =
    let x = held_in c.args.at c.args.row.now in
    let shown = c.visible.ensures in
    c.overlay.ensures ∙ ap (overlaid x.buffer) shown ∙ overlaid-own x
