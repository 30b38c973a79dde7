-- What may be written on standard output. Assumes nothing.
use Rattle.std.specs.Prelude.{ℕ, Option, Some, ◌≤◌, List, ◌≡◌, length, take}
use Rattle.explain.specs.Number.{number_in}
use Rattle.explain.specs.Explains.{printed}

-- what some argument gives: a number or none
abbrev pub IsGiven : Option ℕ → Type 0
IsGiven r = (arg : List ℕ) × (number_in arg ≡ r)

-- card c is the number that some argument gives
abbrev pub IsNumber : ℕ → Type 0
IsNumber c = IsGiven (Some c)

-- the first n bytes of the buffer are what is printed of some argument and some input
abbrev pub IsLine : List ℕ → ℕ → Type 0
IsLine out n = (n ≤ length out) × (arg : List ℕ) × (bs : List ℕ) × (take n out ≡ printed arg bs)
