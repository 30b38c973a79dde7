-- `Faults::is_clean` meets its contract: it is `none` itself. Assumes nothing.
use Rattle.std.proofs.Common.{refl}
use Rattle.limits.specs.Limits.{none}
use Rattle.limits.proofs.Faults.is_clean.Goals as goal

pub returns : goal.returns
unfolding none
returns c = refl
