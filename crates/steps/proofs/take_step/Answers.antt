-- `steps::take_step` meets its contract: past the kinds that there are, the step of none is refused. Assumes nothing.
use mathlib.Core.Path.{sym, ap, ◌∙◌}
use Rattle.std.proofs.lemmas.Result.{err_from_is_err_and}
use Rattle.model.specs.Kinds.{Unknown}
use Rattle.kinds.specs.Table.{kind_refusal}
use Rattle.layout.specs.Values.{step_value}
use Rattle.steps.proofs.Asked.{turned-away}
use Rattle.steps.proofs.take_step.Goals as goal

pub returns-in_err-try_from : goal.returns-in_err-try_from
returns-in_err-try_from c =
    let none = c.in_err-try_from.ensures in
    let is = sym none.0 in
    turned-away Unknown c.args.words.now (step_value c.args.step) c.requires is (none.1 ∙ ap kind_refusal is)
    (err_from_is_err_and _ c.from_residual.ensures.1)
