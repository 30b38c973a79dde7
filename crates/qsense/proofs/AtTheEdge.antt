-- Each case of specs/Cases.antt has its reply, by computation. Assumes nothing.
use mathlib.Core.Path.{refl}
use Rattle.lists.specs.Tests.{All}
use Rattle.lists.specs.Upto.{all_upto}
use Rattle.model.specs.Machine.{step, fresh}
use Rattle.model.proofs.Each.{◌then◌}
use Rattle.layout.specs.Encode.{process_words_by, encode_by, process_by, decode_by}
use Rattle.layout.specs.Nodes.{node_fits, nodes_fit}
use Rattle.layout.specs.Words.{head_fits, lead_fits, hazard_fits, store_fits, process_fits_by, well_formed_by}
use Rattle.layout.specs.Ranges.{in_range, sizes_in_range}
use Rattle.qsense.specs.Calls.{make_words, step_words, reachable_words}
use Rattle.qsense.specs.Cases.{Replies, cases}

-- a line a case, in the list's order
pub replied-so : All Replies cases
unfolding make_words step_words reachable_words step fresh process_words_by encode_by process_by decode_by
    head_fits lead_fits hazard_fits store_fits process_fits_by node_fits nodes_fit all_upto well_formed_by in_range sizes_in_range
replied-so =
    refl
    then refl
    then refl
    then refl
    then refl
    then refl
    then refl
    then refl
    then refl
    then refl
    then refl
    then refl
    then refl
    then tt
