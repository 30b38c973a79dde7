-- `explain::sentence::put_number` meets its contract: a number has at most ten digits. Assumes nothing.
use mathlib.Core.Path.{refl}
use native.Mathlib.Omega.{arith}
use Rattle.text.proofs.Sizes.{ten-most}
use Rattle.explain.proofs.Puts.{exactly, as-text}
use Rattle.explain.proofs.sentence.put_number.Goals as goal

pub put_number-requires : goal.put_number-requires
put_number-requires c = omega (arith, ten-most c.args.n)

pub returns : goal.returns
returns c = as-text (exactly c.put_number.ensures) refl (omega (arith, ten-most c.args.n))
