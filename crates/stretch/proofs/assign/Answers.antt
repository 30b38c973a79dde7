-- `stretch::assign` meets its contract: two words of a hazard, one store more, and its three words in the first free place. Assumes nothing.
use native.Mathlib.Omega.{arith}
use Rattle.stretch.proofs.Writes.{assigned}
use Rattle.stretch.proofs.assign.Goals as goal

pub returns : goal.returns
returns c =
    let h = c.requires in
    assigned _ _ h.0.words _ _ _ _ _ h.1 (omega (arith, h.0.words.stores)) (omega (arith, h.0.hazards)) (omega (arith, h.0.stores))
