-- Comparisons that say the same: of a difference, and of two numbers in one. Assumes nothing.
use Prim.Native.Nat.{ℕ, ◌+◌, ◌*◌, ◌-◌, ◌<◌}
use mathlib.Core.Bool.{Bool, true, false, ◌&&◌}
use mathlib.Core.Path.{◌≡◌, refl}
use native.Mathlib.Omega.{arith}
use lib.Dec.{ltb, eqb}
use borrow.Author.Tests.{lt-ltb, le-ltb, ltb-true, ltb-false, eq-eqb, ne_eqb, eqb-true, eqb-false}

-- t is below the difference of c and s: s is below that of c and t
pub ltb-swap : (s t c : ℕ) → ltb s (c - t) ≡ ltb t (c - s)
ltb-swap s t c = by (ltb t (c - s)) refl
  where
    by : (b : Bool) → ltb t (c - s) ≡ b → ltb s (c - t) ≡ b
    by true e = lt-ltb s (c - t) (omega (arith, ltb-true t (c - s) e))
    by false e = le-ltb s (c - t) (omega (arith, ltb-false t (c - s) e))

-- x and y are two words each: compared at once, compared word by word
pub eqb-pair : {x y : ℕ} (a b c d : ℕ) → x ≡ a + b * 4294967296 → y ≡ c + d * 4294967296 → a < 4294967296 → c < 4294967296
    → eqb x y ≡ (eqb a c && eqb b d)
eqb-pair {x} {y} a b c d u v h k = by (eqb a c) (eqb b d) refl refl
  where
    low : x ≡ y → a ≡ c
    low q = omega arith

    high : x ≡ y → b ≡ d
    high q = omega arith

    same : a ≡ c → b ≡ d → x ≡ y
    same p q = omega arith

    by : (i j : Bool) → eqb a c ≡ i → eqb b d ≡ j → eqb x y ≡ (i && j)
    by true true e f = eq-eqb x y (same (eqb-true a c e) (eqb-true b d f))
    by true false e f = ne_eqb x y (λ q. eqb-false b d f (high q))
    by false true e f = ne_eqb x y (λ q. eqb-false a c e (low q))
    by false false e f = ne_eqb x y (λ q. eqb-false a c e (low q))
