-- A test of every number below a bound, in parts: up to a number and on from there. Assumes nothing.
use Prim.Native.Nat.{ℕ, zero, suc, ◌+◌, ◌-◌, ◌<◌, ◌≤◌}
use mathlib.Core.Bool.{Bool, true, false, ◌&&◌, and_assoc, and-true}
use mathlib.Core.List.{List}
use mathlib.Core.Path.{◌≡◌, refl, subst}
use native.Mathlib.Omega.{arith}
use borrow.Author.Tests.{ltb-true, ltb-false}
use lib.ListN.{length, get_or}
use lib.Dec.{ltb}
use native.Mathlib.Nat.{add-zero, add-suc}
use Rattle.lists.specs.Tests.{every}
use Rattle.lists.specs.Upto.{all_upto}
use Rattle.lists.proofs.Bools.{both, agree}
use Rattle.lists.proofs.Facts.{every_in, every_of}
use Rattle.lists.proofs.Upto.{all-at, all_yes}

-- four tests, the second and the third in the other's place
pub and-swap : (a b c d : Bool) → ((a && b) && (c && d)) ≡ ((a && c) && (b && d))
and-swap true b true d = refl
and-swap true true false d = refl
and-swap true false false d = refl
and-swap false b c d = refl

pub all_join : (f : ℕ → Bool) (n m : ℕ) → all_upto f (n + m) ≡ (all_upto f n && all_upto (λ j. f (n + j)) m)
unfolding all_upto
all_join f n zero = rw (add-zero n, and-true (all_upto f n))
all_join f n (suc m) = rw (add-suc n m, all_join f n m) (and_assoc (all_upto f n) (all_upto (λ j. f (n + j)) m) (f (n + m)))

-- the first n and the last n of m + n, which meet
pub all-overlap : (f : ℕ → Bool) (m n : ℕ) → m ≤ n → (all_upto f n && all_upto (λ j. f (m + j)) n) ≡ all_upto f (m + n)
all-overlap f m n h = agree (all_upto f n && all_upto (λ j. f (m + j)) n) (all_upto f (m + n)) to from
  where
    to : (all_upto f n && all_upto (λ j. f (m + j)) n) ≡ true → all_upto f (m + n) ≡ true
    to e =
        let b = both (all_upto f n) (all_upto (λ j. f (m + j)) n) e in
        all_yes f (m + n) (λ i l. each i l b.0 b.1 (ltb i m) refl)
      where
        each : (i : ℕ) → i < m + n → all_upto f n ≡ true → all_upto (λ j. f (m + j)) n ≡ true → (t : Bool) → ltb i m ≡ t → f i ≡ true
        each i l a b true q = all-at f n i a (omega (arith, ltb-true i m q))
        each i l a b false q =
            let o = ltb-false i m q in
            let r : m + (i - m) ≡ i = omega arith in
            subst (λ (k : ℕ). f k ≡ true) r (all-at (λ j. f (m + j)) n (i - m) b (omega arith))

    from : all_upto f (m + n) ≡ true → (all_upto f n && all_upto (λ j. f (m + j)) n) ≡ true
    from e =
        rw (all_yes f n (λ i l. all-at f (m + n) i e (omega arith)), all_yes (λ j. f (m + j)) n (λ i l. all-at f (m + n) (m + i) e (omega arith)))

-- a test of every element is one of every place
pub every_upto : {A : Type 0} (f : A → Bool) (l : List A) (a : A) → every f l ≡ all_upto (λ i. f (get_or l i a)) (length l)
every_upto f l a =
    agree (every f l) (all_upto (λ i. f (get_or l i a)) (length l))
    (λ e. all_yes (λ i. f (get_or l i a)) (length l) (λ i h. every_in f l i a e h))
    (λ e. every_of f l a (λ i h. all-at (λ i. f (get_or l i a)) (length l) i e h))
