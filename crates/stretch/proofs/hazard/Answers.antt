-- `stretch::hazard` meets its contract: the three words of a hazard. Assumes nothing.
use native.Mathlib.Omega.{arith}
use Rattle.stretch.proofs.Words.{hazard_at_lem}
use Rattle.stretch.proofs.hazard.Goals as goal

pub returns : goal.returns
returns c = let h = c.requires in hazard_at_lem _ _ _ _ (omega (arith, h.0.words.long)) h.1 (omega (arith, h.0.hazards))
