-- Sweeps and counts of the elements from one place up to another, that one left out: two that meet, none, one beyond the other, and a count as
-- that of a part of the list. Assumes nothing.
use Prim.Native.Nat.{ℕ, zero, suc, ◌+◌, ◌-◌, ◌≤◌}
use mathlib.Core.Bool.{Bool, true, false, ◌&&◌, cond}
use mathlib.Core.List.{List, [], ◌∷◌}
use mathlib.Core.Path.{◌≡◌, refl, sym, ap, subst}
use native.Mathlib.Omega.{arith}
use native.Mathlib.Nat.{add-zero, zero-add}
use borrow.Author.Tests.{le-leb, lt-leb, lt-ltb, le-ltb, ltb-true, ltb-false}
use lib.ListN.{take, drop}
use lib.Dec.{leb, ltb}
use lib.Seq.{take-nil}
use Rattle.lists.specs.Tests.{count, count_from}
use Rattle.lists.specs.Sweep.{sweep_from}
use Rattle.lists.proofs.Sweeps.{sweep-of-none}

abbrev between : ℕ → ℕ → ℕ → Bool
between a b c = leb a c && ltb c b

-- ---- two that meet

module _ {A : Type 0} (z : A) (f : ℕ → A → Bool) (a b : ℕ) (h : a ≤ b) where
  abbrev first : ℕ → A → Bool
  first c x = between 0 a c && f c x

  abbrev second : ℕ → A → Bool
  second c x = between a b c && f c x

  abbrev both' : ℕ → A → Bool
  both' c x = between 0 b c && f c x

  -- at one place: which of the two it belongs to
  sweep-meets : (i : ℕ) (x : A) → cond (second i (cond (first i x) z x)) z (cond (first i x) z x) ≡ cond (both' i x) z x
  sweep-meets i x = by (ltb i a) refl
    where
      by : (y : Bool) → ltb i a ≡ y → cond (second i (cond (first i x) z x)) z (cond (first i x) z x) ≡ cond (both' i x) z x
      by true e =
          let lo = ltb-true i a e in
          rw (e, le-leb 0 i (omega arith), lt-ltb i b (omega arith), lt-leb a i (omega arith))
      by false e =
          let hi = ltb-false i a e in
          rw (e, le-leb 0 i (omega arith), le-leb a i (omega arith))

  count_meets : (i : ℕ) (x : A) → cond (first i x) 1 0 + cond (second i (cond (first i x) z x)) 1 0 ≡ cond (both' i x) 1 0
  count_meets i x = by (ltb i a) refl
    where
      by : (y : Bool) → ltb i a ≡ y → cond (first i x) 1 0 + cond (second i (cond (first i x) z x)) 1 0 ≡ cond (both' i x) 1 0
      by true e =
          let lo = ltb-true i a e in
          rw (e, le-leb 0 i (omega arith), lt-ltb i b (omega arith), lt-leb a i (omega arith)) (omega arith)
      by false e =
          let hi = ltb-false i a e in
          rw (e, le-leb 0 i (omega arith), le-leb a i (omega arith)) (omega arith)

  pub sweep-joined : (i : ℕ) (l : List A) → sweep_from z second i (sweep_from z first i l) ≡ sweep_from z both' i l
  sweep-joined i [] = refl
  sweep-joined i (x ∷ xs) = λ t. sweep-meets i x t ∷ sweep-joined (suc i) xs t

  pub count-joined : (i : ℕ) (l : List A) → count_from first i l + count_from second i (sweep_from z first i l) ≡ count_from both' i l
  count-joined i [] = refl
  count-joined i (x ∷ xs) = omega (arith, count_meets i x, count-joined (suc i) xs)

-- ---- none

module _ {A : Type 0} (f : ℕ → A → Bool) (a b : ℕ) where
  pub count_past : (i : ℕ) (l : List A) → b ≤ i → count_from (λ c x. between a b c && f c x) i l ≡ 0
  count_past i [] h = refl
  count_past i (x ∷ xs) h = rw (le-ltb i b h) (by (leb a i) (count_past (suc i) xs (omega arith)))
    where
      by : {n : ℕ} (y : Bool) → n ≡ 0 → cond ((y && false) && f i x) 1 0 + n ≡ 0
      by true e = omega arith
      by false e = omega arith

  pub sweep-past : (z : A) (i : ℕ) (l : List A) → b ≤ i → sweep_from z (λ c x. between a b c && f c x) i l ≡ l
  sweep-past z i l h = sweep-of-none z _ i l (count_past i l h)

-- ---- beyond what is swept

module _ {A : Type 0} (z : A) (f g : ℕ → A → Bool) (a b m : ℕ) where
  abbrev swept : ℕ → A → Bool
  swept c x = between a b c && g c x

  abbrev beyond : ℕ → A → Bool
  beyond c x = between b m c && f c x

  same-beyond : (i : ℕ) (x : A) → beyond i (cond (swept i x) z x) ≡ beyond i x
  same-beyond i x = by (ltb i b) refl (leb a i)
    where
      by : (y : Bool) → ltb i b ≡ y → (v : Bool) → beyond i (cond ((v && ltb i b) && g i x) z x) ≡ beyond i x
      by true e v = rw (lt-leb b i (ltb-true i b e))
      by false e true = rw e
      by false e false = refl

  pub count-beyond : (i : ℕ) (l : List A) → count_from beyond i (sweep_from z swept i l) ≡ count_from beyond i l
  count-beyond i [] = refl
  count-beyond i (x ∷ xs) = λ t. cond {A = ℕ} (same-beyond i x t) 1 0 + count-beyond (suc i) xs t

-- ---- as the count of a part

module _ {A : Type 0} (f : A → Bool) where
  count-front : (a k i : ℕ) (l : List A) → a ≤ i → count_from (λ c x. between a (i + k) c && f x) i l ≡ count f (take k l)
  count-front a zero i l h = count_past (λ _ x. f x) a (i + 0) i l (omega arith)
  count-front a (suc k) i [] h = refl
  count-front a (suc k) i (x ∷ xs) h =
      let e : suc i + k ≡ i + suc k = omega arith in
      let rest =
      subst (λ n. count_from (λ c y. between a n c && f y) (suc i) xs ≡ count f (take k xs)) e (count-front a k (suc i) xs (omega arith)) in
      rw (le-leb a i h, lt-ltb i (i + suc k) (omega arith)) (ap (λ n. cond (f x) 1 0 + n) rest)

  count-later : (n k i : ℕ) (l : List A) → count_from (λ c x. between (i + n) (i + n + k) c && f x) i l ≡ count f (take k (drop n l))
  count-later zero k i l = rw (add-zero i) (count-front i k i l (omega arith))
  count-later (suc n) k i [] = sym (ap (count f) (take-nil k))
  count-later (suc n) k i (x ∷ xs) =
      let e : suc i + n ≡ i + suc n = omega arith in
      let rest =
      subst (λ m. count_from (λ c y. between m (m + k) c && f y) (suc i) xs ≡ count f (take k (drop n xs))) e (count-later n k (suc i) xs) in
      rw (lt-leb (i + suc n) i (omega arith), zero-add) rest

  -- from place a up to place b
  pub count-between : (a b : ℕ) (l : List A) → a ≤ b → count_from (λ c x. between a b c && f x) 0 l ≡ count f (take (b - a) (drop a l))
  count-between a b l h =
      let to : a + (b - a) ≡ b = omega arith in
      rw (zero-add a, to) at (count-later a (b - a) 0 l)
