-- Each case of specs/WhyCases.antt has its answer, by computation. Assumes nothing.
use mathlib.Core.Path.{refl}
use Rattle.lists.specs.Tests.{All}
use Rattle.lists.specs.Upto.{all_upto}
use Rattle.model.specs.Why.{why}
use Rattle.model.proofs.Each.{◌then◌}
use Rattle.layout.specs.Encode.{process_by, decode_by}
use Rattle.layout.specs.Nodes.{node_fits, nodes_fit}
use Rattle.layout.specs.Words.{head_fits, lead_fits, hazard_fits, store_fits, process_fits_by, well_formed_by}
use Rattle.qsense.specs.Calls.{why_words}
use Rattle.qsense.specs.WhyCases.{Answers, cases}

-- a line a case, in the list's order
pub answered-so : All Answers cases
unfolding why_words why process_by decode_by head_fits lead_fits hazard_fits store_fits process_fits_by node_fits nodes_fit all_upto well_formed_by
answered-so =
    refl
    then refl
    then refl
    then refl
    then refl
    then refl
    then refl
    then refl
    then refl
    then refl
    then refl
    then refl
    then refl
    then refl
    then refl
    then refl
    then refl
    then refl
    then refl
    then refl
    then refl
    then refl
    then tt
