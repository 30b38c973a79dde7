-- Two words as one number. Assumes nothing.
use Rattle.std.specs.Prelude.{ℕ, ◌+◌, ◌*◌}

-- how many numbers a word holds
abbrev pub word_range : ℕ
word_range = 4294967296

abbrev pub paired : ℕ → ℕ → ℕ
paired low high = low + high * word_range
