-- An answer in two numbers. Assumes nothing.
use Rattle.std.specs.Prelude.{ℕ, Result}
use Rattle.refusals.specs.declared.Refusal.{Refusal}
use Rattle.refusals.specs.Numbers.{refusal_in, value_in}
use Rattle.answers.specs.declared.Answer.{Answer}

abbrev pub answer_of : Result ℕ Refusal → Answer
answer_of r = record { refusal = refusal_in r; value = value_in r }

-- of a call that has no value to answer
abbrev pub answer_of_none : Result Unit Refusal → Answer
answer_of_none r = record { refusal = refusal_in r; value = 0 }
