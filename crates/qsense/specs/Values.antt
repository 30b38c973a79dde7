-- The reply that an answer of the code and the words after the call make, of a portion too, and what a step on checked words promises. Assumes nothing.
use Rattle.std.specs.Prelude.{ℕ, Bool, List, Result, ◌≡◌}
use Rattle.refusals.specs.declared.Refusal.{Refusal}
use Rattle.refusals.specs.Numbers.{refusal_in, value_in}
use Rattle.answers.specs.declared.Answer.{Answer}
use Rattle.model.specs.State.{Step}
use Rattle.layout.specs.Words.{well_formed}
use Rattle.retire.specs.declared.portion.Portion.{Portion}
use Rattle.steps.specs.Portioned.{portion_in}
use Rattle.qsense.specs.Calls.{Reply, PortionReply, step_words}

abbrev pub reply_of : Result ℕ Refusal → List ℕ → Reply
reply_of r ws = record { refusal = refusal_in r; value = value_in r; words = ws }

-- of a call that has no value to answer
abbrev pub reply_of_none : Result Unit Refusal → List ℕ → Reply
reply_of_none r ws = record { refusal = refusal_in r; value = 0; words = ws }

-- of an answer in two numbers
abbrev pub answer_reply : Answer → List ℕ → Reply
answer_reply a ws = record { refusal = a.refusal; value = a.value; words = ws }

abbrev pub portion_reply_of : Result Portion Refusal → List ℕ → PortionReply
portion_reply_of r ws =
    record {
      refusal = refusal_in r;
      freed = (portion_in r).freed;
      examined = (portion_in r).examined;
      next = (portion_in r).next;
      left = (portion_in r).left;
      words = ws;
    }

-- a step on words ws of which b says whether they are well formed: r and the words ws' are its reply, and b says the same of ws'
pub record Stepped (b : Bool) (s : Step) (ws : List ℕ) (r : Result ℕ Refusal) (ws' : List ℕ) : Type 0 where
  pub reply : reply_of r ws' ≡ step_words ws s
  pub good : b ≡ well_formed ws'
