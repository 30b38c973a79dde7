-- `pass::weights` meets its contract: one number by one, by computation. Assumes nothing.
use mathlib.Core.Path.{refl}
use Rattle.nodes.proofs.pass.weights.Goals as goal

pub returns : goal.returns
returns c = refl
