-- A sweep: place by place, its length, and what it leaves to count. Assumes nothing.
use Prim.Native.Nat.{ℕ, zero, suc, ◌+◌, ◌≤◌}
use mathlib.Core.Bool.{Bool, true, false, not, ◌&&◌, cond}
use mathlib.Core.List.{List, [], ◌∷◌}
use mathlib.Core.Path.{◌≡◌, refl, sym, ◌∙◌, ap, subst}
use native.Mathlib.Omega.{arith}
use native.Mathlib.Nat.{suc-add, add-suc, add-zero}
use lib.ListN.{length, get_or}
use lib.Dec.{leb, ltb}
use borrow.Author.Tests.{le-leb, lt-ltb}
use Rattle.lists.specs.Tests.{count, count_from}
use Rattle.lists.specs.Sweep.{sweep_from, places_from}
use Rattle.lists.proofs.Bools.{by_cond}

module _ {A : Type 0} (z : A) (f : ℕ → A → Bool) where
  pub sweep-at : (P : A → Type 0) (i : ℕ) (l : List A) (c : ℕ)
      → (f (i + c) (get_or l c z) ≡ true → P z) → P (get_or l c z) → P (get_or (sweep_from z f i l) c z)
  sweep-at P i [] c new old = old
  sweep-at P i (x ∷ xs) zero new old =
      by_cond P (f i x) (λ e. new (subst (λ (k : ℕ). f k x ≡ true) (sym (add-zero i)) e)) (λ _. old)
  sweep-at P i (x ∷ xs) (suc c) new old =
      sweep-at P (suc i) xs c (λ e. new (subst (λ (k : ℕ). f k (get_or xs c z) ≡ true) (suc-add i c ∙ sym (add-suc i c)) e)) old

  -- what stands at a place afterwards, past the end too
  pub sweep-is : (i : ℕ) (l : List A) (c : ℕ)
      → get_or (sweep_from z f i l) c z ≡ cond (f (i + c) (get_or l c z)) z (get_or l c z)
  sweep-is i [] c = by_cond (λ x. z ≡ x) (f (i + c) z) (λ _. refl) (λ _. refl)
  sweep-is i (x ∷ xs) zero = rw (add-zero i)
  sweep-is i (x ∷ xs) (suc c) =
      sweep-is (suc i) xs c ∙ ap (λ (k : ℕ). cond (f k (get_or xs c z)) z (get_or xs c z)) (suc-add i c ∙ sym (add-suc i c))

  pub sweep-length : (i : ℕ) (l : List A) → length (sweep_from z f i l) ≡ length l
  sweep-length i [] = refl
  sweep-length i (x ∷ xs) = ap suc (sweep-length (suc i) xs)

  -- a sweep of elements that do not count leaves the count as it was
  pub count-others : (g : A → Bool) (i : ℕ) (l : List A) → g z ≡ false → ((c : ℕ) (x : A) → f c x ≡ true → g x ≡ false)
      → count g (sweep_from z f i l) ≡ count g l
  count-others g i [] k h = refl
  count-others g i (x ∷ xs) k h = by (f i x) refl (count-others g (suc i) xs k h)
    where
      by : (b : Bool) → f i x ≡ b → count g (sweep_from z f (suc i) xs) ≡ count g xs
          → cond (g (cond b z x)) 1 0 + count g (sweep_from z f (suc i) xs) ≡ cond (g x) 1 0 + count g xs
      by true e q = rw (k, h i x e) (omega arith)
      by false e q = omega arith

  -- a sweep to an element that does not count leaves no more
  pub count-sweep : (g : A → Bool) (i : ℕ) (l : List A) → g z ≡ false → count g (sweep_from z f i l) ≤ count g l
  count-sweep g i [] k = omega arith
  count-sweep g i (x ∷ xs) k = by (f i x) (count-sweep g (suc i) xs k)
    where
      by : (b : Bool) → count g (sweep_from z f (suc i) xs) ≤ count g xs
          → cond (g (cond b z x)) 1 0 + count g (sweep_from z f (suc i) xs) ≤ cond (g x) 1 0 + count g xs
      by true q = rw k (omega arith)
      by false q = omega arith

-- a sweep of nothing
pub sweep-none : {A : Type 0} (z : A) (i : ℕ) (l : List A) → sweep_from z (λ _ _. false) i l ≡ l
sweep-none z i [] = refl
sweep-none z i (x ∷ xs) = ap (λ r. x ∷ r) (sweep-none z (suc i) xs)

-- as many places as are counted
pub places-length : {A : Type 0} (f : ℕ → A → Bool) (i : ℕ) (l : List A) → length (places_from f i l) ≡ count_from f i l
places-length f i [] = refl
places-length f i (x ∷ xs) = by (f i x) (places-length f (suc i) xs)
  where
    by : (b : Bool) → length (places_from f (suc i) xs) ≡ count_from f (suc i) xs
        → length (cond b (i ∷ places_from f (suc i) xs) (places_from f (suc i) xs)) ≡ cond b 1 0 + count_from f (suc i) xs
    by true h = omega arith
    by false h = omega arith

-- what a sweep of elements that count, are old and stand at a free place leaves: those that are not old, and those at other places
pub count_left : {A : Type 0} (z : A) (own old : A → Bool) (free : ℕ → Bool) (i : ℕ) (l : List A) → own z ≡ false
    → count own (sweep_from z (λ c x. own x && (old x && free c)) i l) ≤ count (λ x. own x && not (old x)) l + count_from (λ c _. not (free c)) i l
count_left z own old free i [] k = omega arith
count_left z own old free i (x ∷ xs) k = by (own x) refl (old x) (free i) (count_left z own old free (suc i) xs k)
  where
    m : ℕ
    m = count own (sweep_from z (λ c y. own y && (old y && free c)) (suc i) xs)

    u : ℕ
    u = count (λ y. own y && not (old y)) xs

    v : ℕ
    v = count_from (λ c _. not (free c)) (suc i) xs

    by : (a : Bool) → own x ≡ a → (b c : Bool) → m ≤ u + v
        → cond (own (cond (a && (b && c)) z x)) 1 0 + m ≤ cond (a && not b) 1 0 + u + (cond (not c) 1 0 + v)
    by true e true true h = rw k (omega arith)
    by true e true false h = rw e (omega arith)
    by true e false true h = rw e (omega arith)
    by true e false false h = rw e (omega arith)
    by false e true true h = rw e (omega arith)
    by false e true false h = rw e (omega arith)
    by false e false true h = rw e (omega arith)
    by false e false false h = rw e (omega arith)

-- a sweep of the places up to m, of a list that goes no further, is a sweep of all
pub sweep-within : {A : Type 0} (z : A) (f : ℕ → A → Bool) (m i : ℕ) (l : List A) → i + length l ≤ m
    → sweep_from z (λ c x. (leb 0 c && ltb c m) && f c x) i l ≡ sweep_from z f i l
sweep-within z f m i [] h = refl
sweep-within z f m i (x ∷ xs) h =
    rw (le-leb 0 i (omega arith), lt-ltb i m (omega arith)) (ap (λ r. cond (f i x) z x ∷ r) (sweep-within z f m (suc i) xs (omega arith)))

-- a sweep by a test that nothing passes
pub sweep-of-none : {A : Type 0} (z : A) (f : ℕ → A → Bool) (i : ℕ) (l : List A) → count_from f i l ≡ 0 → sweep_from z f i l ≡ l
sweep-of-none z f i [] h = refl
sweep-of-none z f i (x ∷ xs) h = by (f i x) h (sweep-of-none z f (suc i) xs)
  where
    by : (b : Bool) → cond b 1 0 + count_from f (suc i) xs ≡ 0 → (count_from f (suc i) xs ≡ 0 → sweep_from z f (suc i) xs ≡ xs)
        → cond b z x ∷ sweep_from z f (suc i) xs ≡ x ∷ xs
    by true h r = absurd (omega arith)
    by false h r = ap (λ l. x ∷ l) (r (omega arith))
