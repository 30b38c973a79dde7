-- `explain::sentence::put_reason` meets its contract: a text for each reason. Assumes nothing.
use mathlib.Core.Path.{◌≡◌, sym, ap}
use native.Mathlib.Omega.{arith}
use Rattle.waiting.specs.Values.{reason_value}
use Rattle.waiting.specs.declared.Reason.{Reason}
use Rattle.explain.specs.Sentence.{reason_text}
use Rattle.explain.proofs.Puts.{exactly, further, as-text}
use Rattle.explain.proofs.sentence.put_reason.Goals as goal

told : {r q : Reason} → r ≡ q → reason_text (reason_value q) ≡ reason_text (reason_value r)
told e = sym (ap (λ r. reason_text (reason_value r)) e)

pub returns-in-NotRetired : goal.returns-in-NotRetired
returns-in-NotRetired c =
    as-text (further (exactly c.put_bytes-at.ensures) c.put_state.ensures) (told c.in-NotRetired.is) (omega arith)

pub returns-in-Young : goal.returns-in-Young
returns-in-Young c = as-text c.put_young.ensures (told c.in-Young.is) (omega arith)

pub returns-in-Visible : goal.returns-in-Visible
returns-in-Visible c = as-text c.put_visible.ensures (told c.in-Visible.is) (omega arith)

pub returns-in-Ready : goal.returns-in-Ready
returns-in-Ready c = as-text (exactly c.put_bytes.ensures) (told c.in-Ready.is) (omega arith)
