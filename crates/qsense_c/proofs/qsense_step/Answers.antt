-- `qsense_c::qsense_step` meets its contract: a run of one step computes to that step. Assumes nothing.
use Rattle.std.proofs.Common.{slice_index_or, ap}
use Rattle.qsense.specs.Runs.{Ran, run_into}
use Rattle.qsense_c.proofs.qsense_step.Goals as goal

pub returns : goal.returns
unfolding run_into
returns c = ap (λ (x : Ran). record { refusal = slice_index_or x.answers 0 0; value = slice_index_or x.answers 1 0; words = x.words }) c.run.ensures
