-- How much is read. Assumes nothing.
use Rattle.std.specs.Prelude.{ℕ, ◌+◌}
use Rattle.trace.specs.Widths.{most_bytes}

-- a byte more than a book may have, so that a longer one is seen
abbrev pub most_read : ℕ
most_read = most_bytes + 1

-- a short book, whose print takes a small buffer
abbrev pub short_book : ℕ
short_book = 4096
