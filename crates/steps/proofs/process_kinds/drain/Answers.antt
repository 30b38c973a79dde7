-- `steps::process_kinds::drain` meets its contract: by what its questions have answered. Assumes nothing.
use mathlib.Core.Path.{refl}
use Rattle.std.proofs.lemmas.Result.{err_from_is_err_and}
use Rattle.model.specs.Kinds.{Drain}
use Rattle.layout.specs.Values.{step_value}
use Rattle.steps.proofs.Asked.{turned-away, let-in, process-in}
use Rattle.steps.proofs.process_kinds.drain.Goals as goal

pub returns-in_err-ask : goal.returns-in_err-ask
returns-in_err-ask c =
    turned-away Drain c.args.words.now (step_value c.args.step) c.requires.0 c.requires.1 c.in_err-ask.ensures
    (err_from_is_err_and _ c.from_residual.ensures.1)

pub drain-requires-clause-sound : goal.drain-requires-clause-sound
drain-requires-clause-sound c =
    let ws = c.args.words.now in
    let s = step_value c.args.step in
    let e = c.in_ok-ask.ensures in
    (c.requires.0, process-in Drain ws s e refl)

pub returns : goal.returns
returns c =
    let-in Drain c.args.words.now (step_value c.args.step) c.in_ok-ask.ensures c.requires.0 c.requires.1
    (c.drain.ensures, refl)
