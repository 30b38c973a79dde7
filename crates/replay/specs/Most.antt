-- The most bytes of a print, line by line: digits, and a byte after each number. Assumes nothing.
use Rattle.std.specs.Prelude.{ℕ, ◌+◌, ◌*◌}

-- `desk` and N, K, M, T, Q, C and E in 2, 1, 3, 4, 4, 3 and 4 digits
abbrev pub most_params_line : ℕ
most_params_line = 33

-- the step's number in 4 digits, its kind in 3, its refusal in 2, its value in 10, and the panel in 3
abbrev pub most_step_line : ℕ
most_step_line = 27

-- `end` and the clock in 10 digits, the path in 1, the panel in 3
abbrev pub most_end_line : ℕ
most_end_line = 21

-- the lines of a book of n steps
abbrev pub book_room : ℕ → ℕ
book_room n = most_params_line + most_step_line * n + most_end_line
