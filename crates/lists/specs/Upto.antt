-- What a loop that counts up makes: a test of every number below a bound. Assumes nothing.
use Rattle.std.specs.Prelude.{ℕ, zero, suc, Bool, true, ◌&&◌}

unfoldable pub all_upto : (ℕ → Bool) → ℕ → Bool
all_upto f zero = true
all_upto f (suc i) = all_upto f i && f i
