-- `steps::portion::portion` meets its contract: refused, or accepted and done. Assumes nothing.
use mathlib.Core.Path.{refl}
use Rattle.std.proofs.lemmas.Result.{err_from_is_err_and}
use Rattle.model.specs.Kinds.{Portion}
use Rattle.model.specs.Machine.{portion_step}
use Rattle.steps.proofs.Asked.{process-in, node-in}
use Rattle.steps.proofs.Portioning.{portion-refused, portion-done}
use Rattle.steps.proofs.portion.portion.Goals as goal

pub returns-in_err-ask : goal.returns-in_err-ask
returns-in_err-ask c =
    let a = c.args in
    portion-refused c.requires a.p.0 a.c.0 a.limit c.in_err-ask.ensures (err_from_is_err_and _ c.from_residual.ensures.1)

pub scan-requires : goal.scan-requires
scan-requires c =
    let a = c.args in
    let s = portion_step a.p.0 a.c.0 a.limit in
    let e = c.in_ok-ask.ensures in
    (c.requires, process-in Portion a.words.now s e refl, node-in Portion a.words.now s e refl)

pub returns : goal.returns
returns c =
    let a = c.args in
    portion-done c.requires a.p.0 a.c.0 a.limit c.in_ok-ask.ensures c.scan.ensures
