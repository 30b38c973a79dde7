-- `text::put_number` meets its contract. The loop's invariant: with the digits that are left stored too, the buffer is what it is to be.
-- Assumes nothing.
use Prim.Native.Nat.{◌+◌, ◌-◌}
use mathlib.Core.Path.{refl, ◌∙◌}
use native.Mathlib.Omega.{arith}
use lib.ListN.{length-set}
use Rattle.text.proofs.Digits.{one-digit, again, ended, alone}
use Rattle.text.proofs.put_number.Goals as goal

pub bounds-out-at-then-n-lt10 : goal.bounds-out-at-then-n-lt10
bounds-out-at-then-n-lt10 c = simp length-set (let d = one-digit c.args.n (omega arith) in omega (arith, d))

pub returns-then-n-lt10 : goal.returns-then-n-lt10
returns-then-n-lt10 c = alone _ _ _ _ _ _ (omega arith) c.digit.ensures (omega arith)

pub loop-i-init : goal.loop-i-init
loop-i-init c = (omega arith, omega arith, refl, refl)

pub bounds-out-i : goal.bounds-out-i
bounds-out-i c = omega (arith, c.loop-i.invariant.2, length-set c.args.out.now (c.args.at + c.digit_count.result) c.args.after)

pub loop-i-preserved : goal.loop-i-preserved
loop-i-preserved c = (
  omega arith,
  omega arith,
  length-set c.loop-i.out (c.loop-i.i - 1) c.digit-in-loop-i.result ∙ c.loop-i.invariant.2,
  again _ _ _ _ _ (omega arith) c.digit-in-loop-i.ensures ∙ c.loop-i.invariant.3,
)

pub shape_of-out : goal.shape_of-out
shape_of-out c = c.loop-i.invariant.2 ∙ length-set c.args.out.now (c.args.at + c.digit_count.result) c.args.after

pub returns : goal.returns
returns c =
    ended _ _ _ _ _ _ _ _ _ (omega arith) c.digit_count.ensures.0 (omega arith) c.loop-i.invariant.3
