-- Where things stand in a trace (the paper's step book), in bytes, and the most bytes that one may have. Assumes nothing.
use Rattle.std.specs.Prelude.{ℕ, ◌+◌}

-- the most bytes of a trace
abbrev pub most_bytes : ℕ
most_bytes = 65536

-- a byte is below it
abbrev pub byte_range : ℕ
byte_range = 256

-- a number of 32 bits, and the mark
abbrev pub word_size : ℕ
word_size = 4

-- ---- the seven parameters, a word each, from the first on

abbrev pub hazards_byte : ℕ
hazards_byte = 4

abbrev pub nodes_byte : ℕ
nodes_byte = 8

abbrev pub visibility_byte : ℕ
visibility_byte = 12

abbrev pub quiescence_byte : ℕ
quiescence_byte = 16

abbrev pub fallback_byte : ℕ
fallback_byte = 20

abbrev pub lateness_byte : ℕ
lateness_byte = 24

abbrev pub params_size : ℕ
params_size = 28

-- ---- a step: its kind is the first byte, and the fourth is not read

abbrev pub process_byte : ℕ
process_byte = 1

abbrev pub hazard_byte : ℕ
hazard_byte = 2

abbrev pub unread_byte : ℕ
unread_byte = 3

abbrev pub node_byte : ℕ
node_byte = 4

abbrev pub guest_byte : ℕ
guest_byte = 8

abbrev pub step_size : ℕ
step_size = 12

-- ---- the trailer: the count of the steps is its first word

abbrev pub distance_byte : ℕ
distance_byte = 4

abbrev pub mark_byte : ℕ
mark_byte = 8

abbrev pub trailer_size : ℕ
trailer_size = 12

-- a trace with no step: parameters and trailer
abbrev pub least_size : ℕ
least_size = params_size + trailer_size

-- the most steps: (65,536 - 40) / 12
abbrev pub most_steps : ℕ
most_steps = 5458
