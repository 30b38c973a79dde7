-- `steps::attendance::join` meets its contract: its words by what was read. Assumes nothing.
use mathlib.Core.Path.{refl}
use Rattle.steps.proofs.Going.{joins}
use Rattle.std.proofs.lemmas.Result.{err_from_is_err_and}
use Rattle.model.specs.Kinds.{Join}
use Rattle.layout.specs.Values.{step_value}
use Rattle.steps.proofs.Asked.{turned-away, let-in, process-in}
use Rattle.steps.proofs.attendance.join.Goals as goal

pub returns-in_err-ask : goal.returns-in_err-ask
returns-in_err-ask c =
    turned-away Join c.args.words.now (step_value c.args.step) c.requires.0 c.requires.1 c.in_err-ask.ensures
    (err_from_is_err_and _ c.from_residual.ensures.1)

pub lead-lead-requires : goal.lead-lead-requires
lead-lead-requires c =
    let ws = c.args.words.now in
    let s = step_value c.args.step in
    let e = c.in_ok-ask.ensures in
    (c.requires.0, process-in Join ws s e refl)

pub set_words-requires : goal.set_words-requires
set_words-requires c =
    let ws = c.args.words.now in
    let s = step_value c.args.step in
    let e = c.in_ok-ask.ensures in
    (c.requires.0, process-in Join ws s e refl)

pub returns : goal.returns
returns c =
    let-in Join c.args.words.now (step_value c.args.step) c.in_ok-ask.ensures c.requires.0 c.requires.1
    (joins c.args.words.now c.args.step.process.0 c.lead-lead.ensures c.epoch-epoch.ensures c.set_words.ensures)
