-- `steps::attendance::leave` meets its contract: the nodes handed over, then the leaver's words. Assumes nothing.
use mathlib.Core.Path.{sym}
use Rattle.questions.specs.Acted.{Ready}
use Rattle.steps.proofs.Going.{second-in, sound-handed, process-handed, leaves}
use Rattle.std.proofs.lemmas.Result.{err_from_is_err_and}
use Rattle.model.specs.Kinds.{Leave}
use Rattle.layout.specs.Values.{step_value}
use Rattle.steps.proofs.Asked.{turned-away, let-in}
use Rattle.steps.proofs.attendance.leave.Goals as goal

pub returns-in_err-ask : goal.returns-in_err-ask
returns-in_err-ask c =
    turned-away Leave c.args.words.now (step_value c.args.step) c.requires.0 c.requires.1 c.in_err-ask.ensures
    (err_from_is_err_and _ c.from_residual.ensures.1)

pub hand_over-requires : goal.hand_over-requires
hand_over-requires c =
    let p = c.args.step.process.0 in
    let q = c.args.step.node.0 in
    let r : Ready Leave c.args.words.now p 0 q 0 = (c.requires.0, sym c.in_ok-ask.ensures) in
    (c.requires.0, second-in p q r)

pub set_words-requires : goal.set_words-requires
set_words-requires c =
    let p = c.args.step.process.0 in
    let q = c.args.step.node.0 in
    let r : Ready Leave c.args.words.now p 0 q 0 = (c.requires.0, sym c.in_ok-ask.ensures) in
    (sound-handed p q r c.hand_over.ensures, process-handed p q r c.hand_over.ensures)

pub returns : goal.returns
returns c =
    let p = c.args.step.process.0 in
    let q = c.args.step.node.0 in
    let r : Ready Leave c.args.words.now p 0 q 0 = (c.requires.0, sym c.in_ok-ask.ensures) in
    let-in Leave c.args.words.now (step_value c.args.step) c.in_ok-ask.ensures c.requires.0 c.requires.1
    (leaves p q r c.hand_over.ensures c.set_words.ensures)
