-- Tests of a word against a limit that say the same. Assumes nothing.
use Rattle.std.proofs.Common.{◌≡◌, ℕ, zero, suc, ◌-◌, ◌≤◌, Bool, true, false, not, eqb, ltb, leb, sym, refl, ◌∙◌, arith, le-ltb, lt-ltb, leb-false, leb-true}
use Rattle.limits.specs.Limits.{turned, any_word}
use lib.Dec.{leb-suc-zero, eqb-suc-zero}

-- over a limit is not within it
pub over : (w l : ℕ) → ltb l w ≡ not (leb w l)
over w l = by (leb w l) refl
  where
    by : (b : Bool) → leb w l ≡ b → ltb l w ≡ not b
    by true e = le-ltb l w (leb-true w l e)
    by false e = lt-ltb l w (leb-false w l e)

-- at most the last of n is below n
pub below : (w n : ℕ) → 1 ≤ n → leb w (n - 1) ≡ ltb w n
below w n h = by (leb w (n - 1)) refl
  where
    by : (b : Bool) → leb w (n - 1) ≡ b → b ≡ ltb w n
    by true e = sym (lt-ltb w n (omega (arith, leb-true)))
    by false e = sym (le-ltb w n (omega (arith, leb-false)))

pub only_zero : (w : ℕ) → leb w 0 ≡ eqb w 0
only_zero zero = refl
only_zero (suc w) = leb-suc-zero w ∙ sym (eqb-suc-zero w)

-- a number of 32 bits turned twice
pub turned-back : (n : ℕ) → n ≤ any_word → turned (turned n) ≡ n
unfolding turned
turned-back n h = omega arith
