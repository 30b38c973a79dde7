-- `why::asked` meets its contract: without one argument that fits it is as without a digit. Assumes nothing.
use Rattle.std.proofs.Common.{[], refl, sym}
use Rattle.explain.specs.Number.{number_in}
use Rattle.why.proofs.asked.Goals as goal

pub returns-then-not-has_argument : goal.returns-then-not-has_argument
unfolding number_in
returns-then-not-has_argument g c = ([], refl)

pub returns-in_err-n : goal.returns-in_err-n
unfolding number_in
returns-in_err-n g c = ([], sym c.from_residual.ensures)
