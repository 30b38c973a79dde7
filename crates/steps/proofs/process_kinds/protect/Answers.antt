-- `steps::process_kinds::protect` meets its contract: by what its questions have answered. Assumes nothing.
use mathlib.Core.Path.{refl, ◌∙◌, ap}
use native.Mathlib.Numerals.{add-one}
use Rattle.model.specs.Hazards.{assign}
use Rattle.layout.specs.Encode.{encode, decode}
use native.Mathlib.Omega.{arith}
use Rattle.std.proofs.lemmas.Result.{err_from_is_err_and}
use Rattle.model.specs.Kinds.{Protect}
use Rattle.layout.specs.Values.{step_value}
use Rattle.steps.proofs.Asked.{turned-away, let-in, facts, process-in, hazard-in, node-in}
use Rattle.steps.proofs.process_kinds.protect.Goals as goal

pub returns-in_err-ask : goal.returns-in_err-ask
returns-in_err-ask c =
    turned-away Protect c.args.words.now (step_value c.args.step) c.requires.0 c.requires.1 c.in_err-ask.ensures
    (err_from_is_err_and _ c.from_residual.ensures.1)

pub overflow_add-step : goal.overflow_add-step
overflow_add-step c =
    let ws = c.args.words.now in
    let s = step_value c.args.step in
    let e = c.in_ok-ask.ensures in
    omega (arith, node-in Protect ws s e refl, c.requires.0.sizes.nodes)

pub assign-requires : goal.assign-requires
assign-requires c =
    let ws = c.args.words.now in
    let s = step_value c.args.step in
    let e = c.in_ok-ask.ensures in
    record {
      sound = (c.requires.0, process-in Protect ws s e refl, hazard-in Protect ws s e refl);
      p_len_bound = (facts Protect ws s e).room refl;
    }

pub returns : goal.returns
returns c =
    let d = decode c.args.words.now in
    let s = step_value c.args.step in
    let-in Protect c.args.words.now (step_value c.args.step) c.in_ok-ask.ensures c.requires.0 c.requires.1
    (c.assign.ensures ∙ ap (λ v. encode (assign d s v)) (add-one s.node), refl)
