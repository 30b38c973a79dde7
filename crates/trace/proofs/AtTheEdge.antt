-- Each case of specs/Cases.antt is read as it says, by computation; and a book of 65,536 bytes is read, one of 65,537 is not.
-- Assumes nothing.
use mathlib.Core.Bool.{true}
use mathlib.Core.Path.{◌≡◌, refl, ◌∙◌}
use mathlib.Core.List.{◌++◌}
use native.Mathlib.Omega.{arith}
use lib.ListN.{length-append}
use Rattle.lists.specs.Tests.{All}
use Rattle.model.proofs.Each.{◌then◌}
use Rattle.layout.specs.Ranges.{in_range, sizes_in_range}
use Rattle.trace.specs.Bytes.{word_at, mark_at, params_at, step_in, step_at, steps_from}
use Rattle.trace.specs.Trace.{given, trace_at, trace_of, trailer_right, questioned}
use Rattle.trace.specs.Written.{word_bytes}
use Rattle.trace.specs.Cases.{Reads, cases, paper_bytes, paper_trace, AtTheLimit, PastTheLimit}
use Rattle.trace.proofs.Opening.{too_long}
use Rattle.trace.proofs.Shifted.{earlier-unread}

-- a line a case, in the list's order
pub read-so : All Reads cases
unfolding trace_of questioned trailer_right word_at mark_at params_at step_in step_at steps_from word_bytes in_range sizes_in_range
read-so =
    refl
    then refl
    then refl
    then refl
    then refl
    then refl
    then refl
    then refl
    then refl
    then refl
    then refl
    then refl
    then refl
    then refl
    then refl
    then refl
    then refl
    then refl
    then refl
    then refl
    then tt

-- the paper's book
pub paper-read : trace_of paper_bytes ≡ given paper_trace
paper-read = first read-so
  where
    first : All Reads cases → trace_of paper_bytes ≡ given paper_trace
    first r = r.0

paper-right : trailer_right paper_bytes ≡ true
unfolding trailer_right word_at mark_at
paper-right = refl

pub at-the-limit : AtTheLimit
at-the-limit before e =
    earlier-unread before paper_bytes paper-right (omega (arith, length-append before paper_bytes)) ∙ paper-read

pub past-the-limit : PastTheLimit
unfolding trace_of
past-the-limit before e =
    too_long (before ++ paper_bytes) (trace_at (before ++ paper_bytes)) (omega (arith, length-append before paper_bytes))
