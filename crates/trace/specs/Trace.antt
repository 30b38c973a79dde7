-- What the bytes of a trace (the paper's step book) say, read from the trailer back, and the questions asked of them first: at most 65,536
-- bytes? 18. Trailer right? 19. Every parameter in its range? 1. Assumes nothing.
use Rattle.std.specs.Prelude.{ℕ, ◌+◌, ◌*◌, ◌-◌, Bool, true, false, ◌&&◌, List, length, leb, eqb}
use Rattle.model.specs.Params.{Params}
use Rattle.model.specs.State.{Step}
use Rattle.layout.specs.Ranges.{in_range}
use Rattle.trace.specs.Widths.{most_bytes, params_size, step_size, distance_byte, mark_byte, trailer_size, least_size}
use Rattle.trace.specs.Bytes.{word_at, mark_at, params_at, steps_from}

-- what comes of reading: the number of the first question with the answer no, or what was read
pub data Reading (A : Type 0) : Type 0 where
  refused : ℕ → Reading A
  given : A → Reading A

-- is it so? else its number
abbrev pub ask : {A : Type 0} → Bool → ℕ → Reading A → Reading A
ask true n r = r
ask false n r = refused n

-- ---- the trailer: the last 12 bytes

abbrev pub trailer_at : List ℕ → ℕ
trailer_at bs = length bs - trailer_size

-- how many steps
abbrev pub count_of : List ℕ → ℕ
count_of bs = word_at bs (trailer_at bs)

-- the distance back from the end of the bytes to the parameters
abbrev pub distance_of : List ℕ → ℕ
distance_of bs = word_at bs (trailer_at bs + distance_byte)

-- it fits, the mark matches, the distance is 40 + 12 × count and not beyond the start
unfoldable pub trailer_right : List ℕ → Bool
trailer_right bs =
    leb trailer_size (length bs)
    && (mark_at bs (trailer_at bs + mark_byte)
    && (eqb (distance_of bs) (least_size + step_size * count_of bs)
    && leb (distance_of bs) (length bs)))

-- ---- the parameters, and the steps after their 28 bytes

abbrev pub start_of : List ℕ → ℕ
start_of bs = length bs - distance_of bs

abbrev pub params_of : List ℕ → Params
params_of bs = params_at bs (start_of bs)

abbrev pub first_of : List ℕ → ℕ
first_of bs = start_of bs + params_size

abbrev pub steps_of : List ℕ → List Step
steps_of bs = steps_from bs (first_of bs) (count_of bs)

-- ---- the questions, in the paper's order, and then what is asked for

unfoldable pub questioned : {A : Type 0} → List ℕ → A → Reading A
questioned bs a =
    ask (leb (length bs) most_bytes) 18 (ask (trailer_right bs) 19 (ask (in_range (params_of bs)) 1 (given a)))

-- a trace: its parameters and its steps
pub record Trace : Type 0 where
  pub params : Params
  pub steps : List Step

abbrev pub trace_at : List ℕ → Trace
trace_at bs = record { params = params_of bs; steps = steps_of bs }

unfoldable pub trace_of : List ℕ → Reading Trace
trace_of bs = questioned bs (trace_at bs)

-- what is known of a trace before a step is read: its parameters, the count of its steps, and where the first stands
pub record Front : Type 0 where
  pub params : Params
  pub count : ℕ
  pub first : ℕ

abbrev pub front_at : List ℕ → Front
front_at bs = record { params = params_of bs; count = count_of bs; first = first_of bs }

unfoldable pub front_of : List ℕ → Reading Front
front_of bs = questioned bs (front_at bs)
