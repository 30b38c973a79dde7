-- `process::hazard` meets its contract: the stretch lent holds the process. Assumes nothing.
use Rattle.domain.proofs.Lent.{lent-process, lent-stretch}
use mathlib.Core.Path.{◌∙◌, ap}
use Rattle.model.specs.State.{hazard_of}
use native.Mathlib.Omega.{arith}
use Rattle.domain.proofs.process.hazard.Goals as goal

pub hazard-requires : goal.hazard-requires
hazard-requires c =
    let h = c.requires in
    (lent-stretch h.0 h.1 c.place_of-at.ensures, omega (arith, c.place_of-at.ensures.k))

pub returns : goal.returns
returns c =
    let h = c.requires in
    c.hazard.ensures ∙ ap (λ x. hazard_of x c.args.h.0) (lent-process h.0 h.1 c.place_of-at.ensures)
