-- `runs::step_checked` meets its contract: refused with 3, or the step on sound words. Assumes nothing.
use Rattle.layout.specs.Values.{step_value}
use Rattle.qsense.proofs.Checked.{step-refused, checked, step-taken}
use Rattle.qsense.proofs.runs.step_checked.Goals as goal

pub returns-then-not-good : goal.returns-then-not-good
returns-then-not-good c = step-refused c.args.words.now _ c.requires (step_value c.args.step) c.if-not-good.true

pub take_step-requires : goal.take_step-requires
take_step-requires c = checked c.args.words.now _ c.requires c.if-not-good.false

pub returns : goal.returns
returns c = step-taken c.args.words.now _ c.requires (step_value c.args.step) c.if-not-good.false _ _ c.take_step.ensures
