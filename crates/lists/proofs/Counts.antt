-- Counts: of a weaker test, against the length, of an image, of a store, and place by place. Assumes nothing.
use Prim.Native.Nat.{ℕ, zero, suc, ◌+◌, ◌<◌, ◌≤◌}
use mathlib.Core.Bool.{Bool, true, false, cond, false≢true}
use mathlib.Core.List.{List, [], ◌∷◌, ◌++◌, map}
use mathlib.Core.Path.{◌≡◌, refl, sym, ◌∙◌, ap, subst}
use native.Mathlib.Omega.{arith}
use native.Mathlib.Nat.{suc-add, add-suc, add-zero}
use lib.ListN.{length, get_or, set, take, drop, replicate}
use Rattle.lists.specs.Tests.{count, count_from}
use Rattle.lists.proofs.Turns.{one-most}

-- at most one more where the second test holds too
one-le : (a b : Bool) (m n : ℕ) → (a ≡ true → b ≡ true) → m ≤ n → cond a 1 0 + m ≤ cond b 1 0 + n
one-le true true m n f h = omega arith
one-le true false m n f h = absurd (false≢true (f refl))
one-le false true m n f h = omega arith
one-le false false m n f h = omega arith

pub count-mono : {A : Type 0} (f g : A → Bool) (l : List A) → ((a : A) → f a ≡ true → g a ≡ true) → count f l ≤ count g l
count-mono f g [] h = omega arith
count-mono f g (x ∷ xs) h = one-le (f x) (g x) (count f xs) (count g xs) (h x) (count-mono f g xs h)

pub count_most : {A : Type 0} (f : A → Bool) (l : List A) → count f l ≤ length l
count_most f [] = omega arith
count_most f (x ∷ xs) = by (f x) (count_most f xs)
  where
    by : (b : Bool) → count f xs ≤ length xs → cond b 1 0 + count f xs ≤ suc (length xs)
    by true h = omega arith
    by false h = omega arith

pub count_map : {A B : Type 0} (f : B → Bool) (g : A → B) (l : List A) → count f (map g l) ≡ count (λ a. f (g a)) l
count_map f g [] = refl
count_map f g (x ∷ xs) = ap (λ n. cond (f (g x)) 1 0 + n) (count_map f g xs)

-- a change of those alone that pass h
pub count-changed : {A : Type 0} (f h : A → Bool) (g : A → A) (l : List A) → ((a : A) → h a ≡ false → g a ≡ a)
    → count f (map g l) ≤ count h l + count f l
count-changed f h g [] same = omega arith
count-changed f h g (x ∷ xs) same = by (h x) (same x) (count-changed f h g xs same)
  where
    by : (b : Bool) → (b ≡ false → g x ≡ x) → count f (map g xs) ≤ count h xs + count f xs
        → cond (f (g x)) 1 0 + count f (map g xs) ≤ cond b 1 0 + count h xs + (cond (f x) 1 0 + count f xs)
    by true e k = let one = one-most (f (g x)) in omega arith
    by false e k = rw (e refl) (omega arith)

-- those of the first n elements, and of the others
pub count-split : {A : Type 0} (f : A → Bool) (n : ℕ) (l : List A) → count f (take n l) + count f (drop n l) ≡ count f l
count-split f zero l = omega arith
count-split f (suc n) [] = refl
count-split f (suc n) (x ∷ xs) = omega (arith, count-split f n xs)

pub count-replicate : {A : Type 0} (f : A → Bool) (n : ℕ) (a : A) → f a ≡ false → count f (replicate n a) ≡ 0
count-replicate f zero a h = refl
count-replicate f (suc n) a h = rw h (omega (arith, count-replicate f n a h))

-- n times a, and then l
pub count-repeat : {A : Type 0} (f : A → Bool) (n : ℕ) (a : A) (l : List A) → count f (replicate n a ++ l) ≡ cond (f a) n 0 + count f l
count-repeat f zero a l = by (f a)
  where
    by : (b : Bool) → count f l ≡ cond b 0 0 + count f l
    by true = omega arith
    by false = omega arith
count-repeat f (suc n) a l = by (f a) (count-repeat f n a l)
  where
    by : (b : Bool) → count f (replicate n a ++ l) ≡ cond b n 0 + count f l
        → cond b 1 0 + count f (replicate n a ++ l) ≡ cond b (suc n) 0 + count f l
    by true h = omega arith
    by false h = omega arith

-- a store: the new element counts for the old
pub count-swap : {A : Type 0} (f : A → Bool) (l : List A) (i : ℕ) (a d : A) → i < length l
    → count f (set l i a) + cond (f (get_or l i d)) 1 0 ≡ count f l + cond (f a) 1 0
count-swap f [] i a d h = absurd (omega arith)
count-swap f (x ∷ xs) zero a d h = omega arith
count-swap f (x ∷ xs) (suc i) a d h = let e = count-swap f xs i a d (omega arith) in omega arith

-- a store of an element that passes only where the old one did
pub count_set : {A : Type 0} (f : A → Bool) (l : List A) (i : ℕ) (a d : A) → (f a ≡ true → f (get_or l i d) ≡ true)
    → count f (set l i a) ≤ count f l
count_set f [] i a d h = omega arith
count_set f (x ∷ xs) zero a d h = one-le (f a) (f x) (count f xs) (count f xs) h (omega arith)
count_set f (x ∷ xs) (suc i) a d h = one-le (f x) (f x) _ _ (λ e. e) (count_set f xs i a d h)

-- any store counts for one more at most
pub count-set-one : {A : Type 0} (f : A → Bool) (l : List A) (i : ℕ) (a : A) → count f (set l i a) ≤ suc (count f l)
count-set-one f [] i a = omega arith
count-set-one f (x ∷ xs) zero a = by (f a) (f x) (count f xs)
  where
    by : (b c : Bool) (n : ℕ) → cond b 1 0 + n ≤ suc (cond c 1 0 + n)
    by true true n = omega arith
    by true false n = omega arith
    by false true n = omega arith
    by false false n = omega arith
count-set-one f (x ∷ xs) (suc i) a = let h = count-set-one f xs i a in omega arith

-- no place passes
pub count_none : {A : Type 0} (i : ℕ) (l : List A) → count_from (λ _ _. false) i l ≡ 0
count_none i [] = refl
count_none i (x ∷ xs) = omega (arith, count_none (suc i) xs)

-- two counts, of lists as long as each other, place by place
pub count-places : {A B : Type 0} (f : ℕ → A → Bool) (g : ℕ → B → Bool) (i : ℕ) (l : List A) (m : List B) (a : A) (b : B)
    → length l ≡ length m → ((c : ℕ) → f (i + c) (get_or l c a) ≡ g (i + c) (get_or m c b)) → count_from f i l ≡ count_from g i m
count-places f g i [] [] a b e h = refl
count-places f g i [] (y ∷ ys) a b e h = absurd (omega arith)
count-places f g i (x ∷ xs) [] a b e h = absurd (omega arith)
count-places f g i (x ∷ xs) (y ∷ ys) a b e h =
    let here : f i x ≡ g i y = rw add-zero at (h 0) in
    let rest = count-places f g (suc i) xs ys a b (omega arith)
    (λ c. subst (λ (k : ℕ). f k (get_or xs c a) ≡ g k (get_or ys c b)) (add-suc i c ∙ sym (suc-add i c)) (h (suc c))) in
    λ t. cond {A = ℕ} (here t) 1 0 + rest t

-- a test that passes less, place by place
pub count-fewer : {A : Type 0} (f g : ℕ → A → Bool) (i : ℕ) (l : List A) → ((c : ℕ) (x : A) → f c x ≡ true → g c x ≡ true)
    → count_from f i l ≤ count_from g i l
count-fewer f g i [] h = omega arith
count-fewer f g i (x ∷ xs) h = one-le (f i x) (g i x) _ _ (h i x) (count-fewer f g (suc i) xs h)

-- what passes is counted; and two that pass are one, where no more are counted
count-some : {A : Type 0} (f : A → Bool) (l : List A) (i : ℕ) (z : A) → f z ≡ false → f (get_or l i z) ≡ true → 1 ≤ count f l
count-some f [] i z h e = absurd (false≢true (sym h ∙ e))
count-some f (x ∷ xs) zero z h e = rw e (omega arith)
count-some f (x ∷ xs) (suc i) z h e = omega (arith, count-some f xs i z h e)

pub count-one : {A : Type 0} (f : A → Bool) (l : List A) (i j : ℕ) (z : A) → f z ≡ false → count f l ≤ 1
    → f (get_or l i z) ≡ true → f (get_or l j z) ≡ true → i ≡ j
count-one f [] i j z h few a b = absurd (false≢true (sym h ∙ a))
count-one f (x ∷ xs) zero zero z h few a b = refl
count-one f (x ∷ xs) zero (suc j) z h few a b = absurd (omega (arith, rw a at few, count-some f xs j z h b))
count-one f (x ∷ xs) (suc i) zero z h few a b = absurd (omega (arith, rw b at few, count-some f xs i z h a))
count-one f (x ∷ xs) (suc i) (suc j) z h few a b = ap suc (count-one f xs i j z h (omega (arith, few)) a b)
