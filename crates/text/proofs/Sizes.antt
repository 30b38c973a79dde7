-- How many digits a number below a limit has. Assumes nothing.
use Prim.Native.Nat.{ℕ, ◌≤◌, ◌<◌}
use mathlib.Core.Bool.{Bool, true, false, cond}
use native.Mathlib.Omega.{arith}
use lib.Dec.{ltb}
use borrow.Author.Tests.{lt-ltb}
use Rattle.text.specs.Text.{digit_count}

either : (b : Bool) (x y m : ℕ) → x ≤ m → y ≤ m → cond b x y ≤ m
either true x y m p q = p
either false x y m p q = q

pub one-most : (n : ℕ) → n < 10 → digit_count n ≤ 1
unfolding digit_count
one-most n h = rw (lt-ltb n 10 h) (omega arith)

pub two-most : (n : ℕ) → n < 100 → digit_count n ≤ 2
unfolding digit_count
two-most n h = rw (lt-ltb n 100 h) (either (ltb n 10) 1 2 2 (omega arith) (omega arith))

pub three-most : (n : ℕ) → n < 1000 → digit_count n ≤ 3
unfolding digit_count
three-most n h =
    rw (lt-ltb n 1000 h) (either (ltb n 10) 1 _ 3 (omega arith) (either (ltb n 100) 2 3 3 (omega arith) (omega arith)))

pub four-most : (n : ℕ) → n < 10000 → digit_count n ≤ 4
unfolding digit_count
four-most n h =
    rw (lt-ltb n 10000 h)
    (either (ltb n 10) 1 _ 4 (omega arith)
    (either (ltb n 100) 2 _ 4 (omega arith) (either (ltb n 1000) 3 4 4 (omega arith) (omega arith))))

-- a word has at most ten
pub ten-most : (n : ℕ) → digit_count n ≤ 10
unfolding digit_count
ten-most n =
    either (ltb n 10) 1 _ 10 (omega arith)
    (either (ltb n 100) 2 _ 10 (omega arith)
    (either (ltb n 1000) 3 _ 10 (omega arith)
    (either (ltb n 10000) 4 _ 10 (omega arith)
    (either (ltb n 100000) 5 _ 10 (omega arith)
    (either (ltb n 1000000) 6 _ 10 (omega arith)
    (either (ltb n 10000000) 7 _ 10 (omega arith)
    (either (ltb n 100000000) 8 _ 10 (omega arith)
    (either (ltb n 1000000000) 9 10 10 (omega arith) (omega arith)))))))))
