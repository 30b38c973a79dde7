-- Words written one after the other into a list and into a row, what is then at its front, a word of a row read, rows appended, a list with zeros behind it, and a
-- part of a list lent and put back. Assumes nothing.
use Prim.Native.Nat.{ℕ, zero, suc, ◌+◌, ◌*◌, ◌≤◌, ◌<◌}
use mathlib.Core.List.{List, [], ◌∷◌, ◌++◌, append_assoc}
use mathlib.Core.Path.{◌≡◌, refl, ap, ◌∙◌}
use native.Mathlib.Omega.{arith}
use native.Mathlib.Nat.{zero-mul, suc-mul, zero-add, add-suc}
use lib.ListN.{length, take, drop, get_or, set, replicate, length-set, length-take, length-drop, length-append}
use lib.ListN.{replicate-append-replicate}
use lib.Seq.{set-append_left, get_or-take, get_or-drop, take_at, drop_at, sets, sets-eq}
use borrow.Rule.Slice.PartMut.{put_mid}
use Rattle.lists.specs.Rows.{rows, unrows, Codec}
use Rattle.lists.proofs.Rows.{Wide, below, set-append-add, unrows-get_d}

pub sets-append-add : (vs xs ys : List ℕ) (n : ℕ) → sets (xs ++ ys) (length xs + n) vs ≡ xs ++ sets ys n vs
sets-append-add [] xs ys n = refl
sets-append-add (v ∷ vs) xs ys n =
    rw (set-append-add xs ys n v, ← add-suc (length xs) n) (sets-append-add vs xs (set ys n v) (suc n))

pub sets-append-left : (vs xs ys : List ℕ) (i : ℕ) → i + length vs ≤ length xs → sets (xs ++ ys) i vs ≡ sets xs i vs ++ ys
sets-append-left [] xs ys i h = refl
sets-append-left (v ∷ vs) xs ys i h =
    rw (set-append_left xs ys i v (omega arith)) (sets-append-left vs (set xs i v) ys (suc i) (simp length-set (omega arith)))

-- up to the last of them
pub take-sets : (vs l : List ℕ) (i n : ℕ) → n ≡ i + length vs → n ≤ length l → take n (sets l i vs) ≡ take i l ++ vs
take-sets vs l i n e h =
    let k : length (take i l ++ vs) ≡ n = simp (length-append, length-take) (omega arith) in
    ap (λ (x : List ℕ). take n x) (sets-eq vs l i (omega arith)) ∙ take_at (take i l ++ vs) (drop (i + length vs) l) n k

module _ {X : Type 0} (put : X → List ℕ) (w : ℕ) (x₀ : X) where
  -- words of row i written from its place j on
  pub rows-part : (xs : List X) (i j : ℕ) (vs : List ℕ) (y : X) → Wide put w x₀ xs → i < length xs → j + length vs ≤ w
      → sets (put (get_or xs i x₀)) j vs ≡ put y → sets (rows put xs) (i * w + j) vs ≡ rows put (set xs i y)
  rows-part [] i j vs y h l m e = absurd (omega arith)
  rows-part (x ∷ xs) zero j vs y h l m e =
      let k : j + length vs ≤ length (put x) = omega (arith, h 0 (omega arith)) in
      rw (zero-mul w, zero-add j, sets-append-left vs (put x) (rows put xs) j k, e)
  rows-part (x ∷ xs) (suc i) j vs y h l m e =
      let s : suc i * w + j ≡ length (put x) + (i * w + j) = omega (arith, suc-mul i w, h 0 (omega arith)) in
      rw (s, sets-append-add vs (put x) (rows put xs) (i * w + j), rows-part xs i j vs y (λ n b. h (suc n) (omega arith)) (omega arith) m e)

pub rows_append : {X : Type 0} (put : X → List ℕ) (xs ys : List X) → rows put (xs ++ ys) ≡ rows put xs ++ rows put ys
rows_append put [] ys = refl
rows_append put (x ∷ xs) ys = rw (rows_append put xs ys, append_assoc)

-- word j of the i-th of n rows
pub unrows-word : {X : Type 0} {w : ℕ} (c : Codec X w) (x₀ : X) (n i j d : ℕ) (ws : List ℕ) → i < n → n * w ≤ length ws → j < w
    → get_or (c.put (get_or (unrows c.get w n ws) i x₀)) j d ≡ get_or ws (i * w + j) d
unrows-word {w = w} c x₀ n i j d ws l m u =
    let q : List ℕ = drop (i * w) ws in
    let k : length (take w q) ≡ w = simp (length-take, length-drop) (omega (arith, below i n w l)) in
    ap (λ x. get_or (c.put x) j d) (unrows-get_d c.get w x₀ n i ws l)
    ∙ (ap (λ (r : List ℕ). get_or r j d) (c.forth (take w q) k) ∙ (get_or-take w q j d u ∙ get_or-drop (i * w) ws j d))

-- more zeros behind a list that ends in zeros
pub zeros-more : (q : List ℕ) (m j n : ℕ) → m + j ≡ n → (q ++ replicate m 0) ++ replicate j 0 ≡ q ++ replicate n 0
zeros-more q m j n e = rw (append_assoc, replicate-append-replicate, e)

-- the middle list of three lent, and another given back
module _ (a w : ℕ) (p t z : List ℕ) (e : length p ≡ a) (f : length t ≡ w) where
  pub lent-part : take w (drop a (p ++ (t ++ z))) ≡ t
  lent-part = rw (drop_at p (t ++ z) a e, take_at t z w f)

  pub put-part : (ys : List ℕ) → put_mid a w (p ++ (t ++ z)) ys ≡ p ++ (ys ++ z)
  put-part ys = rw (take_at p (t ++ z) a e, drop_at p (t ++ z) a e, drop_at t z w f)
