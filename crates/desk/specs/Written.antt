-- What may be written on standard output. Assumes nothing.
use Rattle.std.specs.Prelude.{ℕ, ◌≤◌, List, length}
use Rattle.print.specs.Printed.{Prints}

-- the first n bytes of the buffer are the print of some bytes
abbrev pub IsPrint : List ℕ → ℕ → Type 0
IsPrint out n = (n ≤ length out) × (bs : List ℕ) × Prints bs out n
