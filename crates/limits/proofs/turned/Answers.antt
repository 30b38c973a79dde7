-- `limits::turned` meets its contract: half of all numbers added, modulo all. Assumes nothing.
use Rattle.std.proofs.Common.{rules}
use Rattle.limits.specs.Limits.{turned}
use Rattle.limits.proofs.turned.Goals as goal

pub returns : goal.returns
unfolding turned
returns c = search rules
