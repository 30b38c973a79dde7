-- The value of each answer of the code: the model's record for a struct, and for a Result the paper's number or the value.
-- Assumes nothing.
use Rattle.std.specs.Prelude.{ℕ, Result, Ok, Err}
use Rattle.refusals.specs.declared.Refusal.{Refusal}
use Rattle.refusals.specs.Numbers.{number, refusal_in}
use Rattle.layout.specs.Values.{params_value}
use Rattle.trace.specs.Trace.{Reading, refused, given, Front}
use Rattle.trace.specs.declared.Header.{Header}

abbrev pub header_value : Header → Front
header_value h = record { params = params_value h.params; count = h.count; first = h.first }

-- 18, 19 and 1 are the paper's numbers for a step book
abbrev pub opened_value : Result Header Refusal → Reading Front
opened_value (Ok h) = given (header_value h)
opened_value (Err r) = refused (number r)

-- the number alone, 0 for a trace that is read
abbrev pub refusal_of : Result Header Refusal → ℕ
refusal_of o = refusal_in o
