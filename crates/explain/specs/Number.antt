-- A card's number as the program `why` is given it: its argument's bytes. Assumes nothing.
use Rattle.std.specs.Prelude.{ℕ, ◌+◌, ◌*◌, ◌-◌, Bool, ◌&&◌, cond, List, [], ◌∷◌, length, leb}
use Rattle.std.specs.Prelude.{Option, Some, None}
use Rattle.lists.specs.Tests.{every}

-- more digits are overlong; so many fit a word
abbrev pub most_digits : ℕ
most_digits = 9

abbrev pub is_digit : ℕ → Bool
is_digit b = leb 48 b && leb b 57

-- n and then the decimal digits bs
abbrev pub digits_from : ℕ → List ℕ → ℕ
digits_from n [] = n
digits_from n (b ∷ bs) = digits_from (10 * n + (b - 48)) bs

-- from 1 digit to the most, and nothing else
unfoldable pub number_in : List ℕ → Option ℕ
number_in bs = cond (leb 1 (length bs) && (leb (length bs) most_digits && every is_digit bs)) (Some (digits_from 0 bs)) None
