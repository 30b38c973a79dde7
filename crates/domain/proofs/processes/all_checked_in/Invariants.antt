-- `processes::all_checked_in` meets its contract: all processes so far pass, and one that does not is the way out. Assumes nothing.
use mathlib.Core.Bool.{true}
use lib.Dec.{eqb}
use Rattle.lists.specs.Tests.{implies}
use Rattle.model.specs.State.{in_presence}
use Rattle.domain.proofs.Passing.{Passing}
use Rattle.domain.proofs.processes.all_checked_in.Given as goal

abbrev pub invariant-loop-p : goal.invariant-loop-p
invariant-loop-p l = Passing (λ x. implies (in_presence x) (eqb x.presence 1)) l.words l.n l.p true
