-- `Faults::piece` meets its contract: the four flags are set by the four words. Assumes nothing.
use Rattle.limits.proofs.Lanes.{piece-none}
use Rattle.limits.proofs.Faults.piece.Goals as goal

pub returns : goal.returns
returns c = piece-none _ _ _ _ _ _ _
