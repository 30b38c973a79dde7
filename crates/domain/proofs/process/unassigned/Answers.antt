-- `process::unassigned` meets its contract: the stretch lent holds the process. Assumes nothing.
use Rattle.domain.proofs.Lent.{lent-process, lent-stretch}
use mathlib.Core.Path.{◌∙◌, ap}
use Rattle.model.specs.Hazards.{unassigned}
use Rattle.domain.proofs.process.unassigned.Goals as goal

pub unassigned-requires : goal.unassigned-requires
unassigned-requires c =
    let h = c.requires in
    lent-stretch h.0 h.1 c.place_of-at.ensures

pub returns : goal.returns
returns c =
    let h = c.requires in
    c.unassigned.ensures ∙ ap unassigned (lent-process h.0 h.1 c.place_of-at.ensures)
