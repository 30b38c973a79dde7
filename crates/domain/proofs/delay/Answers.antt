-- `domain::delay` meets its contract: the head is decoded from these words, and its two ranges keep the sum from wrapping.
-- Assumes nothing.
use native.Mathlib.Omega.{arith}
use borrow.Author.Rules.{rules}
use Rattle.layout.specs.Encode.{decode_by}
use Rattle.domain.proofs.delay.Goals as goal

pub overflow_add-result : goal.overflow_add-result
unfolding decode_by
overflow_add-result c =
    let r = c.requires.domain.params in omega (arith, r.visibility_bound, r.lateness)

pub returns : goal.returns
unfolding decode_by
returns c = search rules
