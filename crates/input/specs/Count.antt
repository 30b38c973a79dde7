-- How many bytes were read. Assumes nothing.
use Rattle.std.specs.Prelude.{ℕ, Result, Ok, Err}
use Rattle.input.specs.declared.Input.{Input}
use Rattle.input.specs.declared.Input.TheVariants.{Whole, Full}

-- none where a read failed
abbrev pub read_count : {E : Type 0} → Result Input E → ℕ
read_count (Ok (Whole n)) = n
read_count (Ok (Full n)) = n
read_count (Err e) = 0
