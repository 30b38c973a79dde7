-- What a step on sound words answers and leaves. Assumes nothing.
use Rattle.std.specs.Prelude.{ℕ, List, Result, ◌≡◌}
use Rattle.refusals.specs.declared.Refusal.{Refusal}
use Rattle.refusals.specs.Numbers.{refusal_in, value_in}
use Rattle.model.specs.State.{Step}
use Rattle.model.specs.Machine.{Outcome, step}
use Rattle.layout.specs.Encode.{encode, decode}
use Rattle.layout.specs.Sound.{Sound}

-- answer r and words ws' are those of the outcome, and the words are sound
pub record Stepped (o : Outcome) (r : Result ℕ Refusal) (ws' : List ℕ) : Type 0 where
  pub refusal : refusal_in r ≡ o.refusal
  pub value : value_in r ≡ o.value
  pub words : ws' ≡ encode o.after
  pub sound : Sound ws'

-- the step on words ws answers r, and leaves ws'
abbrev pub SteppedTo : List ℕ → Step → Result ℕ Refusal → List ℕ → Type 0
SteppedTo ws s r ws' = Stepped (step (decode ws) s) r ws'
