-- The age of a store in sums alone. Assumes nothing.
use Prim.Native.Nat.{ℕ, zero, suc, ◌+◌, ◌-◌}
use mathlib.Core.Bool.{Bool, true, false, ◌&&◌}
use mathlib.Core.Path.{◌≡◌, refl, sym}
use native.Mathlib.Omega.{arith}
use lib.Dec.{ltb}
use borrow.Author.Tests.{lt-ltb, le-ltb, ltb-true, ltb-false}

-- made at t, younger than d at the time c: a sum in place of a difference, which is 0 where t is after c
younger-at : (c t d : ℕ) → (ltb 0 d && ltb c (d + t)) ≡ ltb (c - t) d
younger-at c t zero = sym (le-ltb (c - t) 0 (omega arith))
younger-at c t (suc d) = rw (lt-ltb 0 (suc d) (omega arith)) (by (ltb (c - t) (suc d)) refl)
  where
    by : (b : Bool) → ltb (c - t) (suc d) ≡ b → ltb c (suc d + t) ≡ b
    by true e = lt-ltb c (suc d + t) (omega (arith, ltb-true (c - t) (suc d) e))
    by false e = le-ltb c (suc d + t) (omega (arith, ltb-false (c - t) (suc d) e))

-- the same of the numbers as indices
pub younger : (c t d c' t' d' : ℕ) → c' ≡ c → t' ≡ t → d' ≡ d → (ltb 0 d && ltb c' (d' + t')) ≡ ltb (c - t) d
younger c t d c' t' d' p q e = rw (p, q, e) (younger-at c t d)
