-- `process::validate` meets its contract: the stretch that comes back holds the process so changed. Assumes nothing.
use Rattle.domain.proofs.Lent.{lent-stretch, process-returned}
use Rattle.model.specs.Hazards.{validating}
use native.Mathlib.Omega.{arith}
use Rattle.domain.proofs.process.validate.Goals as goal

pub validate-requires : goal.validate-requires
validate-requires c =
    let h = c.requires in
    (lent-stretch h.0 h.1 c.place_of-at.ensures, omega (arith, c.place_of-at.ensures.k))

pub returns : goal.returns
returns c =
    let h = c.requires in
    process-returned h.0 h.1 c.place_of-at.ensures (λ x. validating x c.args.h.0) _ c.validate.ensures
