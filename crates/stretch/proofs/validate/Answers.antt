-- `stretch::validate` meets its contract: the last word of a hazard. Assumes nothing.
use native.Mathlib.Omega.{arith}
use Rattle.stretch.proofs.Writes.{validated}
use Rattle.stretch.proofs.validate.Goals as goal

pub returns : goal.returns
returns c = let h = c.requires in validated _ _ h.0.words _ _ h.1 (omega (arith, h.0.hazards))
