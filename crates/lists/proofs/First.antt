-- The first element that passes a test: what is so at its place and before it, and whether there is one; and a loop that looks for it.
-- Assumes nothing.
use Prim.Native.Nat.{ℕ, zero, suc, ◌+◌, ◌<◌, ◌≤◌}
use mathlib.Core.Bool.{Bool, true, false, not, ◌&&◌, cond}
use mathlib.Core.List.{List, [], ◌∷◌}
use mathlib.Core.Path.{◌≡◌, refl, sym, ap, ◌∙◌}
use native.Mathlib.Omega.{arith}
use native.Mathlib.Nat.{add-zero}
use native.Mathlib.Numerals.{add-one}
use borrow.Author.Tests.{lt-ltb, le-ltb}
use lib.ListN.{length, drop, get_or}
use lib.Dec.{ltb, eqb}
use lib.Seq.{drop-cons, drop-length}
use Rattle.lists.specs.Tests.{lacks, first_from}
use Rattle.lists.proofs.Bools.{by_cond}
use Rattle.lists.proofs.Turns.{further}

module _ {A : Type 0} (f : ℕ → A → Bool) where
  first-least : (i : ℕ) (l : List A) → i ≤ first_from f i l
  first-least i [] = omega arith
  first-least i (x ∷ l) =
      by_cond (λ n. i ≤ n) (f i x) (λ _. omega arith) (λ _. omega (arith, first-least (suc i) l))

  -- nothing before it passes
  pub first-before : (i : ℕ) (l : List A) (j : ℕ) (a : A) → i + j < first_from f i l → f (i + j) (get_or l j a) ≡ false
  first-before i [] j a h = absurd (omega arith)
  first-before i (x ∷ l) j a h = by (f i x) refl (first-before (suc i) l) j h
    where
      by : (b : Bool) → f i x ≡ b
          → ((j : ℕ) (a : A) → suc i + j < first_from f (suc i) l → f (suc i + j) (get_or l j a) ≡ false)
          → (j : ℕ) → i + j < cond b i (first_from f (suc i) l) → f (i + j) (get_or (x ∷ l) j a) ≡ false
      by true e r j h = absurd (omega arith)
      by false e r zero h = rw (add-zero i) e
      by false e r (suc j) h = further f (λ b. b ≡ false) i j (get_or l j a) (r j a (omega arith))

  -- it passes
  pub first-at : (i : ℕ) (l : List A) (j : ℕ) (a : A) → first_from f i l ≡ i + j → j < length l → f (i + j) (get_or l j a) ≡ true
  first-at i [] j a e h = absurd (omega arith)
  first-at i (x ∷ l) j a e h = by (f i x) refl (first-at (suc i) l) j e h
    where
      by : (b : Bool) → f i x ≡ b
          → ((j : ℕ) (a : A) → first_from f (suc i) l ≡ suc i + j → j < length l → f (suc i + j) (get_or l j a) ≡ true)
          → (j : ℕ) → cond b i (first_from f (suc i) l) ≡ i + j → j < suc (length l) → f (i + j) (get_or (x ∷ l) j a) ≡ true
      by true e r zero q h = rw (add-zero i) e
      by true e r (suc j) q h = absurd (omega arith)
      by false e r zero q h = absurd (omega (arith, first-least (suc i) l))
      by false e r (suc j) q h = further f (λ b. b ≡ true) i j (get_or l j a) (r j a (omega arith) (omega arith))

  -- nothing passes
  abbrev pub none_from : ℕ → List A → Bool
  none_from i [] = true
  none_from i (x ∷ l) = not (f i x) && none_from (suc i) l

  -- there is a first exactly where something passes
  pub first_found : (i : ℕ) (l : List A) → ltb (first_from f i l) (i + length l) ≡ not (none_from i l)
  first_found i [] = le-ltb i (i + 0) (omega arith)
  first_found i (x ∷ l) = by (f i x) (first_found (suc i) l)
    where
      by : (b : Bool) → ltb (first_from f (suc i) l) (suc i + length l) ≡ not (none_from (suc i) l)
          → ltb (cond b i (first_from f (suc i) l)) (i + suc (length l)) ≡ not (not b && none_from (suc i) l)
      by true r = lt-ltb i (i + suc (length l)) (omega arith)
      by false r =
          let e : i + suc (length l) ≡ suc i + length l = omega arith in
          ap (ltb (first_from f (suc i) l)) e ∙ r

-- ---- a loop: the first i do not pass

pub record Seeking {A : Type 0} (f : ℕ → A → Bool) (l : List A) (i : ℕ) : Type 0 where
  pub rest : first_from f i (drop i l) ≡ first_from f 0 l

module _ {A : Type 0} {f : ℕ → A → Bool} {l : List A} where
  pub seek-starts : Seeking f l 0
  seek-starts = record { rest = refl }

  -- it is element i or one after it, as the test of that one says
  seek-at : {i : ℕ} (a : A) {b : Bool} → Seeking f l i → i < length l → f i (get_or l i a) ≡ b
      → cond b i (first_from f (suc i) (drop (suc i) l)) ≡ first_from f 0 l
  seek-at {i} a s h e =
      sym (ap (λ b. cond b i (first_from f (suc i) (drop (suc i) l))) e) ∙ sym (ap (first_from f i) (drop-cons l i a h)) ∙ s.rest

  pub seek-turn : {i : ℕ} (a : A) → Seeking f l i → i < length l → f i (get_or l i a) ≡ false → Seeking f l (i + 1)
  seek-turn {i} a s h e = record { rest = rw (add-one i) (seek-at a s h e) }

  pub seek_found : {i : ℕ} (a : A) → Seeking f l i → i < length l → f i (get_or l i a) ≡ true → i ≡ first_from f 0 l
  seek_found a s h e = seek-at a s h e

  pub seek-ends : {i : ℕ} → Seeking f l i → i ≡ length l → i ≡ first_from f 0 l
  seek-ends {i} s e =
      let d : drop i l ≡ [] = (ap (λ (n : ℕ). drop n l) e ∙ drop-length l) in
      sym (ap (first_from f i) d) ∙ s.rest

-- ---- a number among others

lacks-none : (v i : ℕ) (l : List ℕ) → none_from (λ _ u. eqb u v) i l ≡ lacks l v
lacks-none v i [] = refl
lacks-none v i (u ∷ l) = ap (λ b. not (eqb u v) && b) (lacks-none v (suc i) l)

pub first-lacks : (l : List ℕ) (v : ℕ) → ltb (first_from (λ _ u. eqb u v) 0 l) (length l) ≡ not (lacks l v)
first-lacks l v =
    let e : 0 + length l ≡ length l = omega arith in
    ap (ltb (first_from (λ _ u. eqb u v) 0 l)) (sym e) ∙ first_found (λ _ u. eqb u v) 0 l ∙ ap not (lacks-none v 0 l)
