-- `steps::node_kinds::portion` meets its contract: the refusal of a portion, or one of its numbers. Assumes nothing.
use Rattle.std.proofs.lemmas.Result.{err_from_is_err_and}
use Rattle.layout.specs.Values.{step_value}
use Rattle.steps.proofs.Portioning.{step-done, step-refused}
use Rattle.steps.proofs.node_kinds.portion.Goals as goal

pub returns-in_err-portion : goal.returns-in_err-portion
returns-in_err-portion c =
    step-refused c.args.words.now (step_value c.args.step) c.requires.1 c.in_err-portion.ensures (err_from_is_err_and _ c.from_residual.ensures.1)

pub returns : goal.returns
returns c = step-done c.args.words.now (step_value c.args.step) c.requires.1 c.in_ok-portion.ensures
