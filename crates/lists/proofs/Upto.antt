-- What a loop that counts up makes: its start, a turn of it, and what its end says of each number below the bound. Assumes nothing.
use Prim.Native.Nat.{ℕ, zero, suc, ◌+◌, ◌<◌}
use mathlib.Core.Bool.{Bool, true, false, ◌&&◌, and-true, and-false, and_assoc}
use mathlib.Core.List.{List, [], ◌∷◌}
use mathlib.Core.Path.{◌≡◌, refl, sym, subst}
use mathlib.Core.Logic.{⊎_elim}
use native.Mathlib.Omega.{arith}
use native.Mathlib.Numerals.{add-one}
use native.Mathlib.Nat.{not-suc-le-zero, eq-or-lt_of_le, le_of_suc-le-suc}
use lib.ListN.{length, get_or}
use Rattle.lists.specs.Tests.{All}
use Rattle.lists.specs.Upto.{all_upto}
use Rattle.lists.proofs.Bools.{both}

-- ---- the start

pub all_none : (f : ℕ → Bool) → true ≡ all_upto f 0
unfolding all_upto
all_none f = refl

-- ---- a turn

pub all_more : (f : ℕ → Bool) (j : ℕ) (b : Bool) → b ≡ all_upto f j → (b && f j) ≡ all_upto f (j + 1)
unfolding all_upto
all_more f j b e = rw (add-one j, e)

-- ---- the start and a turn, after a test of something else

pub also-none : (f : ℕ → Bool) (x : Bool) → x ≡ (x && all_upto f 0)
unfolding all_upto
also-none f x = sym (and-true x)

pub also-more : (f : ℕ → Bool) (j : ℕ) (x y z : Bool) → y ≡ (x && all_upto f j) → z ≡ (y && f j) → z ≡ (x && all_upto f (j + 1))
unfolding all_upto
also-more f j x y z hy hz = rw (add-one j, hz, hy) (and_assoc x (all_upto f j) (f j))

-- ---- the same of two tests that agree below the bound, or where all below agree and hold

pub all-ext : (f g : ℕ → Bool) (n : ℕ) → ((i : ℕ) → i < n → f i ≡ g i) → all_upto f n ≡ all_upto g n
unfolding all_upto
all-ext f g zero h = refl
all-ext f g (suc n) h = rw (all-ext f g n (λ i l. h i (omega arith)), h n (omega arith))

pub all-follow : (f g : ℕ → Bool) (n : ℕ) → ((i : ℕ) → i < n → all_upto g i ≡ true → f i ≡ g i) → all_upto f n ≡ all_upto g n
unfolding all_upto
all-follow f g zero h = refl
all-follow f g (suc n) h = rw (all-follow f g n (λ i l. h i (omega arith))) (go (all_upto g n) refl)
  where
    go : (b : Bool) → all_upto g n ≡ b → (b && f n) ≡ (b && g n)
    go true e = h n (omega arith) e
    go false e = refl

-- ---- number by number

pub all-at : (f : ℕ → Bool) (n i : ℕ) → all_upto f n ≡ true → i < n → f i ≡ true
unfolding all_upto
all-at f zero i e l = absurd (not-suc-le-zero l)
all-at f (suc n) i e l =
    ⊎_elim
    (λ q. subst (λ (j : ℕ). f j ≡ true) (sym q) (both (all_upto f n) (f n) e).1)
    (λ q. all-at f n i (both (all_upto f n) (f n) e).0 q)
    (eq-or-lt_of_le (le_of_suc-le-suc l))

pub all_yes : (f : ℕ → Bool) (n : ℕ) → ((i : ℕ) → i < n → f i ≡ true) → all_upto f n ≡ true
unfolding all_upto
all_yes f zero h = refl
all_yes f (suc n) h = rw (all_yes f n (λ i l. h i (omega arith)), h n (omega arith))

pub all-no : (f : ℕ → Bool) (n i : ℕ) → i < n → f i ≡ false → all_upto f n ≡ false
unfolding all_upto
all-no f zero i l e = absurd (not-suc-le-zero l)
all-no f (suc n) i l e =
    ⊎_elim
    (λ q. rw (subst (λ (j : ℕ). f j ≡ false) q e) (and-false (all_upto f n)))
    (λ q. rw (all-no f n i q e))
    (eq-or-lt_of_le (le_of_suc-le-suc l))

pub all_of : {A : Type 0} (P : A → Type 0) (a : A) (l : List A) → ((i : ℕ) → i < length l → P (get_or l i a)) → All P l
all_of P a [] h = tt
all_of P a (x ∷ xs) h = (h 0 (omega arith), all_of P a xs (λ i l. h (suc i) (omega arith)))
