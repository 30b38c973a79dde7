-- The place after the l-th element that passes a test: its bounds, what is counted up to it, and a loop that goes there. Assumes nothing.
use Prim.Native.Nat.{ℕ, zero, suc, ◌+◌, ◌-◌, ◌<◌, ◌≤◌}
use mathlib.Core.Bool.{Bool, true, false, cond}
use mathlib.Core.List.{List, [], ◌∷◌}
use mathlib.Core.Path.{◌≡◌, refl, sym, ap, ◌∙◌, subst}
use native.Mathlib.Omega.{arith}
use lib.ListN.{length, take, get_or}
use Rattle.lists.specs.Tests.{count, past_from}

module _ {A : Type 0} (f : A → Bool) where
  -- how many elements are gone past
  abbrev gone : ℕ → List A → ℕ
  gone zero xs = 0
  gone (suc l) [] = 0
  gone (suc l) (x ∷ xs) = suc (cond (f x) (gone l xs) (gone (suc l) xs))

  past-gone : (l i : ℕ) (xs : List A) → past_from f l i xs ≡ i + gone l xs
  past-gone zero i xs = omega arith
  past-gone (suc l) i [] = omega arith
  past-gone (suc l) i (x ∷ xs) = by (f x) (past-gone l (suc i) xs) (past-gone (suc l) (suc i) xs)
    where
      by : (b : Bool) → past_from f l (suc i) xs ≡ suc i + gone l xs → past_from f (suc l) (suc i) xs ≡ suc i + gone (suc l) xs
          → cond b (past_from f l (suc i) xs) (past_from f (suc l) (suc i) xs) ≡ i + suc (cond b (gone l xs) (gone (suc l) xs))
      by true h k = omega arith
      by false h k = omega arith

  gone-place : (l i : ℕ) (xs : List A) → gone l xs ≡ past_from f l i xs - i
  gone-place l i xs = omega (arith, past-gone l i xs)

  gone-high : (l : ℕ) (xs : List A) → gone l xs ≤ length xs
  gone-high zero xs = omega arith
  gone-high (suc l) [] = omega arith
  gone-high (suc l) (x ∷ xs) = by (f x) (gone-high l xs) (gone-high (suc l) xs)
    where
      by : (b : Bool) → gone l xs ≤ length xs → gone (suc l) xs ≤ length xs → suc (cond b (gone l xs) (gone (suc l) xs)) ≤ suc (length xs)
      by true h k = omega arith
      by false h k = omega arith

  gone-on : (l : ℕ) (xs : List A) → 1 ≤ l → 1 ≤ length xs → 1 ≤ gone l xs
  gone-on zero xs h k = absurd (omega arith)
  gone-on (suc l) [] h k = absurd (omega arith)
  gone-on (suc l) (x ∷ xs) h k = omega arith

  gone-most : (l : ℕ) (xs : List A) → count f (take (gone l xs) xs) ≤ l
  gone-most zero xs = omega arith
  gone-most (suc l) [] = omega arith
  gone-most (suc l) (x ∷ xs) = by (f x) (gone-most l xs) (gone-most (suc l) xs)
    where
      by : (b : Bool) → count f (take (gone l xs) xs) ≤ l → count f (take (gone (suc l) xs) xs) ≤ suc l
          → cond b 1 0 + count f (take (cond b (gone l xs) (gone (suc l) xs)) xs) ≤ suc l
      by true h k = omega arith
      by false h k = omega arith

  gone-all : (l : ℕ) (xs : List A) → count f (take (gone l xs) xs) < l → gone l xs ≡ length xs
  gone-all zero xs h = absurd (omega arith)
  gone-all (suc l) [] h = omega arith
  gone-all (suc l) (x ∷ xs) h = by (f x) (gone-all l xs) (gone-all (suc l) xs) h
    where
      by : (b : Bool) → (count f (take (gone l xs) xs) < l → gone l xs ≡ length xs)
          → (count f (take (gone (suc l) xs) xs) < suc l → gone (suc l) xs ≡ length xs)
          → cond b 1 0 + count f (take (cond b (gone l xs) (gone (suc l) xs)) xs) < suc l
          → suc (cond b (gone l xs) (gone (suc l) xs)) ≡ suc (length xs)
      by true h k c = ap suc (h (omega arith))
      by false h k c = ap suc (k (omega arith))

  -- where l are counted, the last that is gone past passes
  gone-last : (l : ℕ) (xs : List A) (z : A) (j : ℕ) → gone l xs ≡ suc j → count f (take (gone l xs) xs) ≡ l → f (get_or xs j z) ≡ true
  gone-last zero xs z j g e = absurd (omega arith)
  gone-last (suc l) [] z j g e = absurd (omega arith)
  gone-last (suc l) (x ∷ xs) z j g e = by (f x) refl (gone-last l xs z) (gone-last (suc l) xs z) j g e
    where
      by : (b : Bool) → f x ≡ b → ((j : ℕ) → gone l xs ≡ suc j → count f (take (gone l xs) xs) ≡ l → f (get_or xs j z) ≡ true)
          → ((j : ℕ) → gone (suc l) xs ≡ suc j → count f (take (gone (suc l) xs) xs) ≡ suc l → f (get_or xs j z) ≡ true)
          → (j : ℕ) → suc (cond b (gone l xs) (gone (suc l) xs)) ≡ suc j
          → cond b 1 0 + count f (take (cond b (gone l xs) (gone (suc l) xs)) xs) ≡ suc l → f (get_or (x ∷ xs) j z) ≡ true
      by true p h k zero g e = p
      by true p h k (suc j) g e = h j (omega arith) (omega arith)
      by false p h k zero g e =
          let none : gone (suc l) xs ≡ 0 = omega arith in
          absurd (omega (arith, e, ap (λ (n : ℕ). count f (take n xs)) none))
      by false p h k (suc j) g e = k j (omega arith) (omega arith)

  -- ---- by places

  pub past-high : (l i : ℕ) (xs : List A) → past_from f l i xs ≤ i + length xs
  past-high l i xs = omega (arith, past-gone l i xs, gone-high l xs)

  pub past-on : (l i : ℕ) (xs : List A) → 1 ≤ l → 1 ≤ length xs → i < past_from f l i xs
  past-on l i xs h k = omega (arith, past-gone l i xs, gone-on l xs h k)

  pub past-most : (l i : ℕ) (xs : List A) → count f (take (past_from f l i xs - i) xs) ≤ l
  past-most l i xs = subst (λ (n : ℕ). count f (take n xs) ≤ l) (gone-place l i xs) (gone-most l xs)

  pub past_all : (l i : ℕ) (xs : List A) → count f (take (past_from f l i xs - i) xs) < l → past_from f l i xs ≡ i + length xs
  past_all l i xs h =
      let e = gone-all l xs (subst (λ (n : ℕ). count f (take n xs) < l) (sym (gone-place l i xs)) h) in omega (arith, past-gone l i xs)

  pub past-last : (l i : ℕ) (xs : List A) (z : A) → 1 ≤ l → count f (take (past_from f l i xs - i) xs) ≡ l
      → f (get_or xs (past_from f l i xs - i - 1) z) ≡ true
  past-last l i xs z h e = last (past_from f l i xs - i) (gone-place l i xs) e
    where
      last : (n : ℕ) → gone l xs ≡ n → count f (take n xs) ≡ l → f (get_or xs (n - 1) z) ≡ true
      last zero g e = absurd (omega arith)
      last (suc j) g e =
          let at : suc j - 1 ≡ j = omega arith in
          rw at (gone-last l xs z j g (ap (λ (n : ℕ). count f (take n xs)) g ∙ e))

  -- ---- a loop that goes there: an element more, and none left

  pub past_more : (l k i : ℕ) (x : A) (xs : List A) → 1 ≤ l → l ≡ k + cond (f x) 1 0 → past_from f l i (x ∷ xs) ≡ past_from f k (suc i) xs
  past_more zero k i x xs h e = absurd (omega arith)
  past_more (suc l) k i x xs h e = by (f x) e
    where
      by : (b : Bool) → suc l ≡ k + cond b 1 0 → cond b (past_from f l (suc i) xs) (past_from f (suc l) (suc i) xs) ≡ past_from f k (suc i) xs
      by true e = let same : l ≡ k = omega arith in ap (λ (n : ℕ). past_from f n (suc i) xs) same
      by false e = let same : suc l ≡ k = omega arith in ap (λ (n : ℕ). past_from f n (suc i) xs) same

  pub past-none : (l i : ℕ) → past_from f l i [] ≡ i
  past-none zero i = refl
  past-none (suc l) i = refl
