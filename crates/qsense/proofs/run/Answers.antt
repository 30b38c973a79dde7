-- `qsense::run` meets its contract: two ways out with no, and the whole list. Assumes nothing.
use Rattle.qsense.specs.Runs.{step_count, run_into}
use Rattle.layout.specs.Shape.{step_width, answer_width}
use borrow.Author.Tests.{eq-eqb, ne_eqb}
use lib.ListN.{length}
use mathlib.Core.Logic.{◌≢◌}
use mathlib.Core.Path.{◌≡◌}
use mathlib.Core.Bool.{true}
use Prim.Native.Nat.{ℕ, ◌*◌}
use native.Mathlib.Omega.{arith}
use Rattle.qsense.proofs.run.Goals as goal

pub returns-then-steps-count : goal.returns-then-steps-count
unfolding run_into
returns-then-steps-count c =
    let l : ℕ = length c.args.steps.now in
    let other : l ≢ step_width * step_count l = λ e. omega (arith, c.if-steps-count.true) in
    rw (ne_eqb _ _ other)

pub returns-then-answers-count : goal.returns-then-answers-count
unfolding run_into
returns-then-answers-count c =
    let a = c.args in
    let l : ℕ = length a.steps.now in
    let whole : l ≡ step_width * step_count l = omega arith in
    let other : length a.answers.now ≢ answer_width * step_count l = λ e. omega (arith, c.if-answers-count.true) in
    rw (eq-eqb _ _ whole, ne_eqb _ _ other)

pub returns : goal.returns
unfolding run_into
returns c =
    let a = c.args in
    let l : ℕ = length a.steps.now in
    let whole : l ≡ step_width * step_count l = omega arith in
    let long : length a.answers.now ≡ answer_width * step_count l = omega arith in
    let ran = c.run_all.ensures in
    rw (eq-eqb _ _ whole, eq-eqb _ _ long) (λ t. record { taken = true; words = ran.0 t; answers = ran.1 t })
