-- What the program `desk` prints: the bytes of its output by the bytes of its input. Assumes nothing.
use Rattle.std.specs.Prelude.{ℕ, ◌-◌, ◌/◌, ◌≤◌, List, ◌≡◌, length, take}
use Rattle.trace.specs.Widths.{least_size, step_size}
use Rattle.trace.specs.Trace.{Reading, refused, given, Trace, trace_of}
use Rattle.text.specs.Text.{refused_text}
use Rattle.replay.specs.Most.{book_room}
use Rattle.replay.specs.Lines.{book_text}

-- of a book that was read: its number, or its lines
abbrev pub reading_text : Reading Trace → List ℕ
reading_text (refused n) = refused_text n
reading_text (given t) = book_text t

-- of any bytes
unfoldable pub printed : List ℕ → List ℕ
printed bs = reading_text (trace_of bs)

-- the most bytes that n bytes print: a step takes 12 of them, parameters and trailer 40
abbrev pub print_room : ℕ → ℕ
print_room n = book_room ((n - least_size) / step_size)

-- the first n bytes of the buffer are what the bytes print, and no more than so many bytes may print
pub record Prints (bs out' : List ℕ) (n : ℕ) : Type 0 where
  pub text : take n out' ≡ printed bs
  pub room : n ≤ print_room (length bs)
