-- A list of numbers names at most as many places as it is long. Assumes nothing.
use Prim.Native.Nat.{ℕ, suc, ◌+◌, ◌≤◌}
use mathlib.Core.Bool.{Bool, true, false, not, ◌&&◌, cond}
use mathlib.Core.List.{List, [], ◌∷◌}
use mathlib.Core.Path.{◌≡◌, refl, sym}
use mathlib.Core.Logic.{◌≢◌}
use native.Mathlib.Omega.{arith}
use borrow.Author.Tests.{eqb-true, eqb-false, ne_eqb, not-true}
use lib.ListN.{length, get_or}
use lib.Dec.{eqb}
use Rattle.lists.specs.Tests.{lacks, count_from}
use Rattle.lists.proofs.Facts.{every-at}
use Rattle.lists.proofs.Counts.{count_none}

pub lacks-at : (l : List ℕ) (i v : ℕ) → lacks l v ≡ true → v ≢ 0 → get_or l i 0 ≢ v
lacks-at l i v h z = eqb-false _ v (not-true _ (every-at (λ u. not (eqb u v)) l i 0 h (rw (ne_eqb 0 v (λ e. z (sym e))))))

module _ {A : Type 0} where
  -- a place that fails one of two tests fails the first or the second
  either : (a b : ℕ → Bool) (i : ℕ) (l : List A)
      → count_from (λ c _. not (a c && b c)) i l ≤ count_from (λ c _. not (a c)) i l + count_from (λ c _. not (b c)) i l
  either a b i [] = omega arith
  either a b i (n ∷ ns) = by (a i) (b i) (either a b (suc i) ns)
    where
      u : ℕ
      u = count_from (λ c _. not (a c)) (suc i) ns

      v : ℕ
      v = count_from (λ c _. not (b c)) (suc i) ns

      w : ℕ
      w = count_from (λ c _. not (a c && b c)) (suc i) ns

      by : (x y : Bool) → w ≤ u + v → cond (not (x && y)) 1 0 + w ≤ cond (not x) 1 0 + u + (cond (not y) 1 0 + v)
      by true true h = omega arith
      by true false h = omega arith
      by false true h = omega arith
      by false false h = omega arith

  -- one number names no place past it, and one place at most
  past : (v i : ℕ) (l : List A) → v ≤ i → count_from (λ c _. not (not (eqb v (suc c)))) i l ≡ 0
  past v i [] h = refl
  past v i (n ∷ ns) h = rw (ne_eqb v (suc i) (λ e. omega arith)) (omega (arith, past v (suc i) ns (omega arith)))

  single : (v i : ℕ) (l : List A) → count_from (λ c _. not (not (eqb v (suc c)))) i l ≤ 1
  single v i [] = omega arith
  single v i (n ∷ ns) = by (eqb v (suc i)) refl (single v (suc i) ns)
    where
      w : ℕ
      w = count_from (λ c _. not (not (eqb v (suc c)))) (suc i) ns

      by : (b : Bool) → eqb v (suc i) ≡ b → w ≤ 1 → cond (not (not b)) 1 0 + w ≤ 1
      by true e h = let q = eqb-true v (suc i) e in omega (arith, past v (suc i) ns (omega arith))
      by false e h = omega arith

  pub named-places : (vs : List ℕ) (i : ℕ) (l : List A) → count_from (λ c _. not (lacks vs (suc c))) i l ≤ length vs
  named-places [] i l = omega (arith, count_none i l)
  named-places (v ∷ vs) i l =
      omega (arith, either (λ c. not (eqb v (suc c))) (λ c. lacks vs (suc c)) i l, single v i l, named-places vs i l)
