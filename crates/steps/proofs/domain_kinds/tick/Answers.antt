-- `steps::domain_kinds::tick` meets its contract: by the clock as it was. Assumes nothing.
use mathlib.Core.Path.{refl}
use Prim.Native.Nat.{◌+◌}
use mathlib.Core.Path.{◌∙◌, ap}
use Rattle.model.specs.State.{with_clock}
use Rattle.layout.specs.Encode.{encode, decode}
use Rattle.std.proofs.lemmas.Result.{err_from_is_err_and}
use Rattle.model.specs.Kinds.{Tick}
use Rattle.layout.specs.Values.{step_value}
use Rattle.steps.proofs.Asked.{turned-away, let-in}
use Rattle.steps.proofs.domain_kinds.tick.Goals as goal

pub returns-in_err-ask : goal.returns-in_err-ask
returns-in_err-ask c =
    turned-away Tick c.args.words.now (step_value c.args.step) c.requires.0 c.requires.1 c.in_err-ask.ensures
    (err_from_is_err_and _ c.from_residual.ensures.1)

pub returns : goal.returns
returns c =
    let d = decode c.args.words.now in
    let-in Tick c.args.words.now (step_value c.args.step) c.in_ok-ask.ensures c.requires.0 c.requires.1
    (c.set_clock.ensures ∙ ap (λ n. encode (with_clock d (n + 1))) c.clock-clock.ensures, refl)
