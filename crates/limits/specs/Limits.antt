-- Words at most their limits, and no fault found. Assumes nothing.
use Rattle.std.specs.Prelude.{ℕ, ◌+◌, ◌%◌, Bool, not, ◌&&◌, List, nat_le}
use Rattle.layout.specs.Shape.{word}
use Rattle.limits.specs.declared.Faults.{Faults}

-- nothing was found amiss
unfoldable pub none : Faults → Bool
none f = not f.first && (not f.second && (not f.third && (not f.fourth && not f.other)))

-- with the top bit of 32 turned
unfoldable pub turned : ℕ → ℕ
turned n = (n + 2147483648) % 4294967296

-- the four words from place a on, each at most its limit
unfoldable pub within : List ℕ → ℕ → ℕ → ℕ → ℕ → ℕ → Bool
within ws a x y z v = nat_le (word ws a) x && (nat_le (word ws (a + 1)) y && (nat_le (word ws (a + 2)) z && nat_le (word ws (a + 3)) v))

-- by four limits of a table, which keeps them turned, from place b on
abbrev pub in_row : List ℕ → ℕ → List ℕ → ℕ → Bool
in_row ws a limits b =
    within ws a (turned (word limits b)) (turned (word limits (b + 1))) (turned (word limits (b + 2))) (turned (word limits (b + 3)))

-- the largest number of a word, a limit that no word is over
abbrev pub any_word : ℕ
any_word = 4294967295
