-- `trace::step_at` meets its contract: the test says whether the step is inside. Assumes nothing.
use mathlib.Core.Path.{sym, ◌∙◌}
use borrow.Author.Tests.{leb-true}
use Rattle.trace.proofs.Opening.{step-inside, step-outside}
use native.Mathlib.Omega.{arith}
use Rattle.trace.proofs.step_at.Goals as goal

pub returns-then-not-holds : goal.returns-then-not-holds
returns-then-not-holds c =
    let a = c.args in
    (sym (step-outside a.bytes.now a.at (sym c.holds.ensures ∙ c.if-not-holds.true)), omega arith)

pub step_inside-requires : goal.step_inside-requires
step_inside-requires c = leb-true _ _ (sym c.holds.ensures ∙ c.if-not-holds.false)

pub returns : goal.returns
returns c =
    let a = c.args in
    let inside = step-inside a.bytes.now a.at (sym c.holds.ensures ∙ c.if-not-holds.false) in
    (c.step_inside.ensures.0 ∙ sym inside, c.step_inside.ensures.1)
