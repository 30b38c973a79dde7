-- `Faults::noted` meets its contract: one more flag is set. Assumes nothing.
use Rattle.limits.proofs.Lanes.{noted-none}
use Rattle.limits.proofs.Faults.noted.Goals as goal

pub returns : goal.returns
returns c = noted-none _ _
