-- A test or a fact of every element, at a place and over changes of the list. Assumes nothing.
use Prim.Native.Nat.{ℕ, zero, suc, ◌<◌}
use mathlib.Core.Bool.{Bool, true, ◌&&◌, and_assoc}
use mathlib.Core.List.{List, [], ◌∷◌, ◌++◌, map}
use mathlib.Core.Path.{◌≡◌, refl, sym, ap, ◌∙◌}
use native.Mathlib.Omega.{arith}
use lib.ListN.{length, get_or, set, replicate}
use Rattle.lists.specs.Tests.{every, All}
use Rattle.lists.specs.Sweep.{sweep_from}
use Rattle.lists.proofs.Bools.{both, by_cond}

module _ {A : Type 0} (f : A → Bool) where
  -- where the default passes too, the place need not be inside
  pub every-at : (l : List A) (i : ℕ) (a : A) → every f l ≡ true → f a ≡ true → f (get_or l i a) ≡ true
  every-at [] i a h k = k
  every-at (x ∷ xs) zero a h k = (both (f x) (every f xs) h).0
  every-at (x ∷ xs) (suc i) a h k = every-at xs i a (both (f x) (every f xs) h).1 k

  pub every_in : (l : List A) (i : ℕ) (a : A) → every f l ≡ true → i < length l → f (get_or l i a) ≡ true
  every_in [] i a h k = absurd (omega arith)
  every_in (x ∷ xs) zero a h k = (both (f x) (every f xs) h).0
  every_in (x ∷ xs) (suc i) a h k = every_in xs i a (both (f x) (every f xs) h).1 (omega arith)

  pub every_of : (l : List A) (a : A) → ((i : ℕ) → i < length l → f (get_or l i a) ≡ true) → every f l ≡ true
  every_of [] a h = refl
  every_of (x ∷ xs) a h = rw (h 0 (omega arith), every_of xs a (λ i l. h (suc i) (omega arith)))

  pub every-both : (a b : List A) → every f (a ++ b) ≡ (every f a && every f b)
  every-both [] b = refl
  every-both (x ∷ xs) b = ap (λ t. f x && t) (every-both xs b) ∙ sym (and_assoc (f x) (every f xs) (every f b))

  pub every_append : (a b : List A) → every f (a ++ b) ≡ true → (every f a ≡ true) × (every f b ≡ true)
  every_append a b h = both (every f a) (every f b) (sym (every-both a b) ∙ h)

module _ {A : Type 0} (P : A → Type 0) where
  pub all-at : (l : List A) (i : ℕ) (d : A) → All P l → i < length l → P (get_or l i d)
  all-at [] i d h k = absurd (omega arith)
  all-at (x ∷ xs) zero d h k = h.0
  all-at (x ∷ xs) (suc i) d h k = all-at xs i d h.1 (omega arith)

  pub all_set : (l : List A) (i : ℕ) (a : A) → All P l → P a → All P (set l i a)
  all_set [] i a h k = tt
  all_set (x ∷ xs) zero a h k = (k, h.1)
  all_set (x ∷ xs) (suc i) a h k = (h.0, all_set xs i a h.1 k)

  pub all_snoc : (l : List A) (a : A) → All P l → P a → All P (l ++ (a ∷ []))
  all_snoc [] a h k = (k, tt)
  all_snoc (x ∷ xs) a h k = (h.0, all_snoc xs a h.1 k)

  pub all_replicate : (n : ℕ) (a : A) → P a → All P (replicate n a)
  all_replicate zero a h = tt
  all_replicate (suc n) a h = (h, all_replicate n a h)

  pub all-sweep : (z : A) (f : ℕ → A → Bool) (i : ℕ) (l : List A) → P z → All P l → All P (sweep_from z f i l)
  all-sweep z f i [] k h = tt
  all-sweep z f i (x ∷ xs) k h = (by_cond P (f i x) (λ _. k) (λ _. h.0), all-sweep z f (suc i) xs k h.1)

-- a test that holds wherever another does
pub every-follows : {A : Type 0} (f g : A → Bool) (l : List A) → ((a : A) → f a ≡ true → g a ≡ true) → every f l ≡ true → every g l ≡ true
every-follows f g [] k h = refl
every-follows f g (x ∷ xs) k h = let b = both (f x) _ h in rw (k x b.0) (every-follows f g xs k b.1)

-- a place with a fact that the default has not is inside
pub inside : {A : Type 0} (P : A → Type 0) (l : List A) (i : ℕ) (d : A) → (P d → ⊥) → P (get_or l i d) → i < length l
inside P [] i d n h = absurd (n h)
inside P (x ∷ xs) zero d n h = omega arith
inside P (x ∷ xs) (suc i) d n h = omega (arith, inside P xs i d n h)

-- from one fact to another
pub all_map : {A : Type 0} (P Q : A → Type 0) (l : List A) → ((a : A) → P a → Q a) → All P l → All Q l
all_map P Q [] f h = tt
all_map P Q (x ∷ xs) f h = (f x h.0, all_map P Q xs f h.1)

pub all-through : {A : Type 0} (P : A → Type 0) (f : A → A) (l : List A) → ((a : A) → P a → P (f a)) → All P l → All P (map f l)
all-through P f [] g h = tt
all-through P f (x ∷ xs) g h = (g x h.0, all-through P f xs g h.1)

-- from a fact and a test that goes with it
pub all-test : {A : Type 0} (P Q : A → Type 0) (f : A → Bool) (l : List A) → ((a : A) → f a ≡ true → P a → Q a)
    → every f l ≡ true → All P l → All Q l
all-test P Q f [] g e h = tt
all-test P Q f (x ∷ xs) g e h =
    (g x (both (f x) (every f xs) e).0 h.0, all-test P Q f xs g (both (f x) (every f xs) e).1 h.1)
