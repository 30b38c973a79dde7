-- `process::lead` meets its contract: the stretch lent holds the process. Assumes nothing.
use Rattle.domain.proofs.Lent.{lent-process}
use mathlib.Core.Path.{◌∙◌, ap}
use Rattle.layout.specs.Shape.{lead_of}
use Rattle.domain.proofs.process.lead.Goals as goal

pub returns : goal.returns
returns c =
    let h = c.requires in
    c.lead.ensures c.place_of-at.result.k ∙ ap lead_of (lent-process h.0 h.1 c.place_of-at.ensures)
