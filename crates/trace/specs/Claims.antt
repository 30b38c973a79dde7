-- What is promised of a trace beyond the calls' own equations: which steps a caller reads that goes from the first on, and which bytes are
-- not read. Assumes nothing.
use Rattle.std.specs.Prelude.{ℕ, ◌+◌, ◌*◌, ◌≤◌, ◌<◌, true, List, ◌++◌, ◌≡◌, length, get_or, set}
use Rattle.lists.specs.Tests.{All}
use Rattle.layout.specs.Ranges.{in_range}
use Rattle.trace.specs.Widths.{most_bytes, most_steps, word_size, unread_byte, step_size, trailer_size, least_size}
use Rattle.trace.specs.Bytes.{no_step, step_in, step_at, steps_from}
use Rattle.trace.specs.Trace.{Reading, refused, given, Front, front_of, Trace, trace_of, trailer_right, count_of}
use Rattle.trace.specs.Trace.{distance_of}
use Rattle.trace.specs.Written.{StepFits, trace_bytes}

-- the trace that a front leads to
abbrev pub led_from : List ℕ → Front → Trace
led_from bs f = record { params = f.params; steps = steps_from bs f.first f.count }

-- the trace whose front is known
abbrev pub trace_from : List ℕ → Reading Front → Reading Trace
trace_from bs (refused n) = refused n
trace_from bs (given f) = given (led_from bs f)

-- what opening finds leads to the trace: the same number, or the same parameters and the steps from the first on
abbrev pub FrontLeads : Type 0
FrontLeads = (bs : List ℕ) → trace_of bs ≡ trace_from bs (front_of bs)

-- f is what opening finds, t the trace
pub record InTurn (bs : List ℕ) (f : Front) (t : Trace) : Type 0 where
  pub params : t.params ≡ f.params
  pub many : length t.steps ≡ f.count
  -- step j is what the code's step_at answers at first + step_size × j, and its bytes are all there
  pub each : (j : ℕ) → j < f.count → get_or t.steps j no_step ≡ step_at bs (f.first + step_size * j)
  pub whole : (j : ℕ) → j < f.count → step_at bs (f.first + step_size * j) ≡ step_in bs (f.first + step_size * j)
  -- the trailer follows the last step
  pub ends : f.first + step_size * f.count + trailer_size ≡ length bs
  pub short : length bs ≤ most_bytes
  -- so many steps need so many bytes, and there are never more than the most
  pub room : least_size + step_size * f.count ≤ length bs
  pub few : f.count ≤ most_steps

-- a caller that reads step_at for each j below the count reads the steps of the trace, in turn
abbrev pub StepsInTurn : Type 0
StepsInTurn = (bs : List ℕ) (f : Front) → front_of bs ≡ given f → (t : Trace) × (trace_of bs ≡ given t) × InTurn bs f t

-- earlier bytes are not read: a trace with other bytes before it is the same trace
abbrev pub EarlierUnread : Type 0
EarlierUnread =
    (before bs : List ℕ) → trailer_right bs ≡ true → length (before ++ bs) ≤ most_bytes → trace_of (before ++ bs) ≡ trace_of bs

-- the fourth byte of a step is not read
abbrev pub FourthUnread : Type 0
FourthUnread = (bs : List ℕ) (i v : ℕ) → step_at (set bs (i + unread_byte) v) i ≡ step_at bs i

-- a book of before E had a word less, and so a distance shorter by that: it gets 19
abbrev pub BeforeLateness : Type 0
BeforeLateness =
    (bs : List ℕ) → length bs ≤ most_bytes → distance_of bs + word_size ≡ least_size + step_size * count_of bs → trace_of bs ≡ refused 19

-- a trace that fits is read back as it was written
abbrev pub WrittenRead : Type 0
WrittenRead =
    (t : Trace) → in_range t.params ≡ true → All StepFits t.steps → least_size + step_size * length t.steps ≤ most_bytes
    → trace_of (trace_bytes t) ≡ given t

-- one of the most steps does, and fills the most bytes
abbrev pub GreatestRead : Type 0
GreatestRead =
    (t : Trace) → in_range t.params ≡ true → All StepFits t.steps → length t.steps ≡ most_steps
    → (trace_of (trace_bytes t) ≡ given t) × (length (trace_bytes t) ≡ most_bytes)
