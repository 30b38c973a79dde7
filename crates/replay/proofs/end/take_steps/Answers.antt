-- `replay::end::take_steps` meets its contract. The loop's invariant: i steps are taken, and the words are on the way (`Towards`) to what
-- all of them leave. Assumes nothing.
use Prim.Native.Nat.{ℕ, ◌+◌, ◌*◌}
use mathlib.Core.Path.{refl, ap, ◌∙◌}
use native.Mathlib.Omega.{arith}
use borrow.Author.Rules.{rules}
use Rattle.trace.specs.Bytes.{step_at}
use Rattle.replay.proofs.Step.{after_is}
use Rattle.replay.proofs.Turns.{towards-start, towards-on, towards-end}
use Rattle.replay.proofs.end.take_steps.Goals as goal

pub loop-i-init : goal.loop-i-init
loop-i-init c = (omega arith, refl, towards-start _ _ _ _ (search rules))

pub loop-i-preserved : goal.loop-i-preserved
loop-i-preserved c =
    let a = c.args in
    let next = c.step_at-step.ensures.0 ∙ ap (λ (n : ℕ). step_at a.bytes.now (a.first + 12 * n)) c.wide.ensures.0 in
    let towards = c.loop-i.invariant.2 in
    let stepped = c.take_step-answer.ensures in (
      omega arith,
      search rules,
      towards-on _ _ _ _ _ _ _ (omega arith) next _ towards stepped.sound (after_is _ towards.sound _ _ _ stepped),
    )

pub returns : goal.returns
returns c =
    let end = towards-end _ _ _ _ _ _ (omega arith) c.loop-i.invariant.2 in
    record { sound = end.0; words_after = end.1 }
