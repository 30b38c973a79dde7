-- `domain::path` meets its contract: the head is decoded from these words, and a path of theirs that is not 0 is 1. Assumes nothing.
use Prim.Native.Nat.{ℕ, ◌≤◌}
use mathlib.Core.Path.{◌≡◌, sym, ◌∙◌}
use native.Mathlib.Omega.{arith}
use Rattle.std.proofs.Common.{◌≢◌}
use Rattle.layout.specs.Encode.{decode_by}
use Rattle.domain.proofs.path.Goals as goal

the-other : {n : ℕ} → n ≤ 1 → n ≢ 0 → 1 ≡ n
the-other l z = omega arith

pub returns-then-words-from : goal.returns-then-words-from
unfolding decode_by
returns-then-words-from c = sym (c.if-words-from.true ∙ c.from.ensures)

pub returns-else-words-from : goal.returns-else-words-from
unfolding decode_by
returns-else-words-from c = the-other c.requires.domain.path (λ e. c.if-words-from.false (e ∙ sym c.from.ensures))
