-- `replay::replay_step` meets its contract: the step at the offset is taken, and its line put after the others. Assumes nothing.
use native.Mathlib.Omega.{arith}
use Rattle.replay.proofs.Step.{few, lowered, line-size, taken_at}
use Rattle.std.proofs.Common.{ℕ, Result}
use mathlib.Core.Path.{◌≡◌, ap}
use Rattle.refusals.specs.declared.Refusal.{Refusal}
use Rattle.refusals.specs.Numbers.{refusal_in, value_in}
use Rattle.answers.specs.declared.Answer.{Answer}
use Rattle.answers.specs.Values.{answer_of}
use Rattle.replay.proofs.replay_step.Goals as goal

numbers : {a : Answer} (r : Result ℕ Refusal) → a ≡ answer_of r → (a.refusal ≡ refusal_in r) × (a.value ≡ value_in r)
numbers r e = (ap (λ (x : Answer). x.refusal) e, ap (λ (x : Answer). x.value) e)

pub counted-after-requires : goal.counted-after-requires
counted-after-requires c =
    (omega (arith, few _ _ c.requires.0), lowered _ _ c.requires.0 _ _ _ c.take_step-taken.ensures)

pub put_step-end-requires : goal.put_step-end-requires
put_step-end-requires c =
    let short =
    line-size _ _ c.requires.0 _ _ _ c.take_step-taken.ensures _ c.counted-after.ensures _ _ (numbers _ c.from-answer.ensures)
    c.args.i c.requires.1 c.step_at-step.ensures.1 in
    omega (arith, short)

pub returns : goal.returns
returns c =
    let p = c.requires in
    taken_at _ _ p.0 _ _ c.step_at-step.ensures.0 _ _ c.take_step-taken.ensures _ c.counted-after.ensures _ _ (numbers _ c.from-answer.ensures)
    _ _ _ _ _ p.1 c.step_at-step.ensures.1 p.2 c.put_step-end.ensures
