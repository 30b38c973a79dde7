-- `steps::process_kinds::clear` meets its contract: by what its questions have answered. Assumes nothing.
use mathlib.Core.Path.{refl}
use Rattle.std.proofs.lemmas.Result.{err_from_is_err_and}
use Rattle.model.specs.Kinds.{Clear}
use Rattle.layout.specs.Values.{step_value}
use Rattle.steps.proofs.Asked.{turned-away, let-in, facts, process-in, hazard-in}
use Rattle.steps.proofs.process_kinds.clear.Goals as goal

pub returns-in_err-ask : goal.returns-in_err-ask
returns-in_err-ask c =
    turned-away Clear c.args.words.now (step_value c.args.step) c.requires.0 c.requires.1 c.in_err-ask.ensures
    (err_from_is_err_and _ c.from_residual.ensures.1)

pub assign-requires : goal.assign-requires
assign-requires c =
    let ws = c.args.words.now in
    let s = step_value c.args.step in
    let e = c.in_ok-ask.ensures in
    record {
      sound = (c.requires.0, process-in Clear ws s e refl, hazard-in Clear ws s e refl);
      p_len_bound = (facts Clear ws s e).room refl;
    }

pub returns : goal.returns
returns c =
    let-in Clear c.args.words.now (step_value c.args.step) c.in_ok-ask.ensures c.requires.0 c.requires.1
    (c.assign.ensures, refl)
