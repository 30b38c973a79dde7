-- A store and a load, and a function over a store. Assumes nothing.
use Prim.Native.Nat.{ℕ, zero, suc, ◌<◌}
use mathlib.Core.List.{List, [], ◌∷◌, map}
use mathlib.Core.Path.{◌≡◌, refl, ap}
use mathlib.Core.Logic.{◌≢◌}
use native.Mathlib.Omega.{arith}
use lib.ListN.{length, get_or, set, replicate}

-- a load after a store, by cases on the place
pub set_cases : {A : Type 0} (P : A → Type 0) (l : List A) (i j : ℕ) (a d : A) → i < length l
    → (j ≡ i → P a) → (j ≢ i → P (get_or l j d)) → P (get_or (set l i a) j d)
set_cases P [] i j a d h new old = absurd (omega arith)
set_cases P (x ∷ xs) zero zero a d h new old = new refl
set_cases P (x ∷ xs) zero (suc j) a d h new old = old (omega arith)
set_cases P (x ∷ xs) (suc i) zero a d h new old = old (omega arith)
set_cases P (x ∷ xs) (suc i) (suc j) a d h new old =
    set_cases P xs i j a d (omega arith) (λ e. new (ap suc e)) (λ ne. old (λ e. ne (omega arith)))

-- the same where the old value will do at every place, so that the store may lie outside
pub set_keeps : {A : Type 0} (P : A → Type 0) (l : List A) (i j : ℕ) (a d : A)
    → (j ≡ i → P (get_or l j d) → P a) → P (get_or l j d) → P (get_or (set l i a) j d)
set_keeps P [] i j a d new old = old
set_keeps P (x ∷ xs) zero zero a d new old = new refl old
set_keeps P (x ∷ xs) zero (suc j) a d new old = old
set_keeps P (x ∷ xs) (suc i) zero a d new old = old
set_keeps P (x ∷ xs) (suc i) (suc j) a d new old = set_keeps P xs i j a d (λ e. new (ap suc e)) old

pub map-set : {A B : Type 0} (f : A → B) (l : List A) (i : ℕ) (a : A) → map f (set l i a) ≡ set (map f l) i (f a)
map-set f [] i a = refl
map-set f (x ∷ xs) zero a = refl
map-set f (x ∷ xs) (suc i) a = ap (λ r. f x ∷ r) (map-set f xs i a)

pub map-replicate : {A B : Type 0} (f : A → B) (n : ℕ) (a : A) → map f (replicate n a) ≡ replicate n (f a)
map-replicate f zero a = refl
map-replicate f (suc n) a = ap (λ r. f a ∷ r) (map-replicate f n a)

-- a change that the function does not see
pub map-again : {A B : Type 0} (f : A → B) (g : A → A) (l : List A) → ((a : A) → f (g a) ≡ f a) → map f (map g l) ≡ map f l
map-again f g [] h = refl
map-again f g (x ∷ xs) h = cc (h x, map-again f g xs h)

-- what holds of the element and of the default holds at every place of a repeat
pub replicate-at : {A : Type 0} (P : A → Type 0) (n : ℕ) (a b : A) (i : ℕ) → P a → P b → P (get_or (replicate n a) i b)
replicate-at P zero a b i h k = k
replicate-at P (suc n) a b zero h k = h
replicate-at P (suc n) a b (suc i) h k = replicate-at P n a b i h k
