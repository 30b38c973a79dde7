-- The values of the exports as the library's. Assumes nothing.
use Rattle.std.specs.Prelude.{ℕ, List, Result}
use Rattle.refusals.specs.declared.Refusal.{Refusal}
use Rattle.refusals.specs.Numbers.{refusal_in}
use Rattle.retire.specs.declared.portion.Portion.{Portion}
use Rattle.steps.specs.Portioned.{portion_in}
use Rattle.qsense.specs.Calls.{PortionReply}
use Rattle.qsense.specs.Numbers.{Numbers}
use Rattle.qsense_c.specs.declared.Portioned.{Portioned}
use Rattle.qsense_c.specs.declared.Why.{Why}

-- the numbers of a portion: all but the refusal 0 where it is refused
abbrev pub portioned_of : Result Portion Refusal → Portioned
portioned_of r =
    record {
      refusal = refusal_in r;
      freed = (portion_in r).freed;
      examined = (portion_in r).examined;
      next = (portion_in r).next;
      left = (portion_in r).left;
    }

abbrev pub portion_reply_of : Portioned → List ℕ → PortionReply
portion_reply_of r ws =
    record { refusal = r.refusal; freed = r.freed; examined = r.examined; next = r.next; left = r.left; words = ws }

abbrev pub numbers_in : Why → Numbers
numbers_in r =
    record {
      refusal = r.refusal;
      answer = r.answer;
      state = r.state;
      ticks = r.ticks;
      process = r.process;
      hazard = r.hazard;
      behind = r.behind;
      behind_process = r.behind_process;
    }
