-- A loop that goes through a list once: a count and a sweep of the places it has passed, and a turn more; and one that replaces
-- elements, place by place. Assumes nothing.
use Prim.Native.Nat.{ℕ, zero, suc, ◌+◌, ◌<◌}
use mathlib.Core.Bool.{Bool, true, false, cond}
use mathlib.Core.List.{List, [], ◌∷◌, ◌++◌}
use mathlib.Core.Path.{◌≡◌, refl, sym, ◌∙◌, ap, subst}
use native.Mathlib.Omega.{arith}
use native.Mathlib.Nat.{suc-add, add-suc, add-zero}
use lib.ListN.{length, get_or, set, take, drop, length-set}
use lib.Seq.{set-get_or, take-suc}
use Rattle.lists.specs.Tests.{count, count_from}
use Rattle.lists.specs.Sweep.{sweep_from, set_each}

-- a test that is passed counts for one at most
pub one-most : (b : Bool) → cond b 1 0 < 2
one-most true = omega arith
one-most false = omega arith

pub count_turn : {A : Type 0} (f : A → Bool) (l : List A) (i : ℕ) (d : A) → i < length l
    → count f (take i l) + cond (f (get_or l i d)) 1 0 ≡ count f (take (suc i) l)
count_turn f [] i d h = absurd (omega arith)
count_turn f (x ∷ xs) zero d h = omega arith
count_turn f (x ∷ xs) (suc i) d h = omega (arith, count_turn f xs i d (omega arith))

module _ {A : Type 0} (f : ℕ → A → Bool) where
  -- the place of a test, counted from the tail
  pub further : (P : Bool → Type 0) (k i : ℕ) (x : A) → P (f (suc k + i) x) → P (f (k + suc i) x)
  further P k i x h = subst (λ (j : ℕ). P (f j x)) (suc-add k i ∙ sym (add-suc k i)) h

  pub count-from-turn : (k : ℕ) (l : List A) (i : ℕ) (d : A) → i < length l
      → count_from f k (take i l) + cond (f (k + i) (get_or l i d)) 1 0 ≡ count_from f k (take (suc i) l)
  count-from-turn k [] i d h = absurd (omega arith)
  count-from-turn k (x ∷ xs) zero d h = rw (add-zero k) (omega arith)
  count-from-turn k (x ∷ xs) (suc i) d h =
      further (λ b. count_from f k (take (suc i) (x ∷ xs)) + cond b 1 0 ≡ count_from f k (take (suc (suc i)) (x ∷ xs))) k i (get_or xs i d)
      (omega (arith, count-from-turn (suc k) xs i d (omega arith)))

  module _ (z : A) where
    -- the places up to i swept, the others as they were
    abbrev pub swept_to : ℕ → ℕ → List A → List A
    swept_to k i l = sweep_from z f k (take i l) ++ drop i l

    pub swept_at : (k i : ℕ) (l : List A) (d : A) → get_or (swept_to k i l) i d ≡ get_or l i d
    swept_at k zero l d = refl
    swept_at k (suc i) [] d = refl
    swept_at k (suc i) (x ∷ xs) d = swept_at (suc k) i xs d

    pub swept-turn : (k : ℕ) (l : List A) (i : ℕ) (d : A) → i < length l
        → set (swept_to k i l) i (cond (f (k + i) (get_or l i d)) z (get_or l i d)) ≡ swept_to k (suc i) l
    swept-turn k [] i d h = absurd (omega arith)
    swept-turn k (x ∷ xs) zero d h = rw (add-zero k)
    swept-turn k (x ∷ xs) (suc i) d h =
        further (λ b. set (swept_to k (suc i) (x ∷ xs)) (suc i) (cond b z (get_or xs i d)) ≡ swept_to k (suc (suc i)) (x ∷ xs)) k i (get_or xs i d)
        (ap (λ (r : List A). cond (f k x) z x ∷ r) (swept-turn (suc k) xs i d (omega arith)))

    -- a place that does not pass
    pub swept_kept : (k : ℕ) (l : List A) (i : ℕ) (d : A) → i < length l → f (k + i) (get_or l i d) ≡ false
        → swept_to k i l ≡ swept_to k (suc i) l
    swept_kept k l i d h e =
        sym (set-get_or (swept_to k i l) i d)
        ∙ ap (λ (x : A). set (swept_to k i l) i x) (swept_at k i l d ∙ rw e)
        ∙ swept-turn k l i d h

module _ {A : Type 0} (z : A) where
  pub each-length : (cs : List ℕ) (l : List A) → length (set_each z cs l) ≡ length l
  each-length [] l = refl
  each-length (c ∷ cs) l = each-length cs (set l c z) ∙ length-set l c z

  -- a place more
  pub each_more : (cs : List ℕ) (c : ℕ) (l : List A) → set (set_each z cs l) c z ≡ set_each z (cs ++ (c ∷ [])) l
  each_more [] c l = refl
  each_more (b ∷ cs) c l = each_more cs c (set l b z)

  pub each_turn : (cs : List ℕ) (j : ℕ) (l : List A) → j < length cs
      → set (set_each z (take j cs) l) (get_or cs j 0) z ≡ set_each z (take (suc j) cs) l
  each_turn cs j l h = rw (take-suc cs j 0 h) (each_more (take j cs) (get_or cs j 0) l)
