-- `explain::number::read` meets its contract. The loop's invariant: the first i bytes are digits, and n is their number. Assumes
-- nothing.
use mathlib.Core.Path.{sym, ◌∙◌}
use native.Mathlib.Omega.{arith}
use Rattle.explain.proofs.Digits.{no-digits, digit-is, room, digits_more, spoilt, all_read}
use Rattle.explain.proofs.number.read.Goals as goal

pub loop-b-init : goal.loop-b-init
loop-b-init c = (omega arith, no-digits _)

pub returns-then-not-is_digit : goal.returns-then-not-is_digit
returns-then-not-is_digit c =
    spoilt _ _ _ c.loop-b.invariant.1 (omega arith)
    (sym c.is_digit.ensures ∙ c.if-not-is_digit.true)

pub overflow_mul-n : goal.overflow_mul-n
overflow_mul-n c = omega (arith, room _ _ _ c.loop-b.invariant.1 (omega arith))

pub overflow_sub-b : goal.overflow_sub-b
overflow_sub-b c = (digit-is _ (sym c.is_digit.ensures ∙ c.if-not-is_digit.false)).0

pub overflow_add-n : goal.overflow_add-n
overflow_add-n c = omega (arith, room _ _ _ c.loop-b.invariant.1 (omega arith))

pub loop-b-preserved : goal.loop-b-preserved
loop-b-preserved c =
    (omega arith, digits_more _ _ _ _ c.loop-b.invariant.1 (omega arith) (sym c.is_digit.ensures ∙ c.if-not-is_digit.false) (omega arith))

pub returns : goal.returns
returns c = all_read _ _ _ c.loop-b.invariant.1 (omega arith) (omega arith) (omega arith)
