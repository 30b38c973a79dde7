-- The starred cases of the paper and those of the later requests hold of the rules, by computation. Assumes nothing.
use mathlib.Core.Path.{refl}
use Rattle.lists.specs.Tests.{All}
use Rattle.model.specs.Machine.{step, portioned, fresh}
use Rattle.model.specs.Reference.{initial, follow}
use Rattle.model.specs.Edge.{Holds, cases}
use Rattle.model.proofs.Each.{◌then◌}

-- a line a case, in the list's order
pub edge : All Holds cases
unfolding step portioned fresh initial follow
edge =
    refl
    then refl
    then (refl, refl)
    then (refl, refl)
    then (refl, refl)
    then (refl, refl)
    then (refl, refl)
    then (refl, refl)
    then (refl, refl)
    then (refl, refl)
    then (refl, refl)
    then (refl, refl)
    then (refl, refl)
    then (refl, refl)
    then (refl, refl)
    then (refl, refl)
    then (refl, refl)
    then (refl, refl)
    then (refl, refl)
    then (refl, refl)
    then (refl, refl)
    then (refl, refl)
    then (refl, refl)
    then (refl, refl)
    then (refl, refl, refl)
    then (refl, refl)
    then (refl, refl)
    then (refl, refl)
    then (refl, refl)
    then (refl, refl)
    then (refl, refl)
    then (refl, refl)
    then (refl, refl)
    then (refl, refl)
    then (refl, refl)
    then (refl, refl)
    then (refl, refl)
    then refl
    then (refl, refl)
    then (refl, refl)
    then (refl, refl)
    then (refl, refl)
    then (refl, refl)
    then (refl, refl)
    then (refl, refl)
    then (refl, refl)
    then (refl, refl)
    then (refl, refl)
    then (refl, refl)
    then (refl, refl)
    then (refl, refl)
    then (refl, refl)
    then (refl, refl)
    then (refl, refl)
    then (refl, refl)
    then (refl, refl)
    then (refl, refl)
    then (refl, refl)
    then (refl, refl)
    then (refl, refl)
    then (refl, refl)
    then (refl, refl)
    then (refl, refl)
    then (refl, refl)
    then tt
