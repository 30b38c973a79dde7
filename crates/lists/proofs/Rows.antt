-- A flat list of numbers as rows of one width: its length, a number of it, a row of it, a row written, and the rows read back.
-- Assumes nothing.
use Prim.Native.Nat.{ℕ, zero, suc, ◌+◌, ◌*◌, ◌≤◌, ◌<◌}
use mathlib.Core.Bool.{true}
use mathlib.Core.List.{List, [], ◌∷◌, ◌++◌, append_assoc, append-nil}
use mathlib.Core.Path.{◌≡◌, refl, ap, sym, ◌∙◌}
use native.Mathlib.Omega.{arith}
use native.Mathlib.Nat.{zero-mul, suc-mul, zero-add, suc-add, mul-le-mul_right, not-suc-le-zero}
use lib.ListN.{length, take, drop, get_or, set, replicate, replicate-append-replicate, length-append, length-take}
use lib.ListN.{length-drop, length-replicate, get_or-replicate, get_or-append}
use lib.Seq.{length-take-le, take-append-le, take-append-add, drop-append-add, get_or-append-add, set-append_left}
use lib.Seq.{drop-append-le, take_at, drop_at, drop-drop, take-take, take-nil, take-add, sets, sets-eq}
use Rattle.lists.specs.Rows.{rows, unrows, Codec}

-- each row is w numbers wide
abbrev pub Wide : {X : Type 0} → (X → List ℕ) → ℕ → X → List X → Type 0
Wide put w x₀ xs = (i : ℕ) → i < length xs → length (put (get_or xs i x₀)) ≡ w

pub set-append-add : (xs ys : List ℕ) (n a : ℕ) → set (xs ++ ys) (length xs + n) a ≡ xs ++ set ys n a
set-append-add [] ys n a = rw zero-add
set-append-add (x ∷ xs) ys n a = simp suc-add (ap (λ (l : List ℕ). x ∷ l) (set-append-add xs ys n a))

-- row i ends within n rows
pub below : (i n w : ℕ) → i < n → i * w + w ≤ n * w
below i n w h = omega (arith, mul-le-mul_right w h, suc-mul i w)

-- a place one row further
further : (i w j v : ℕ) → v ≡ w → suc i * w + j ≡ v + (i * w + j)
further i w j v e = omega (arith, suc-mul i w)

module _ {X : Type 0} (put : X → List ℕ) (w : ℕ) (x₀ : X) where
  others : (x : X) (xs : List X) → Wide put w x₀ (x ∷ xs) → Wide put w x₀ xs
  others x xs h i l = h (suc i) (omega arith)

  pub length-rows : (xs : List X) → Wide put w x₀ xs → length (rows put xs) ≡ length xs * w
  length-rows [] h = sym (zero-mul w)
  length-rows (x ∷ xs) h =
      simp length-append (omega (arith, h 0 (omega arith), length-rows xs (others x xs h), suc-mul (length xs) w))

  -- ---- a number of row i

  pub rows-get_d : (xs : List X) (i j d : ℕ) → Wide put w x₀ xs → i < length xs → j < w
      → get_or (rows put xs) (i * w + j) d ≡ get_or (put (get_or xs i x₀)) j d
  rows-get_d [] i j d h l m = absurd (not-suc-le-zero l)
  rows-get_d (x ∷ xs) zero j d h l m =
      let k : j < length (put x) = omega (arith, h 0 (omega arith)) in
      rw (zero-mul w, zero-add j) (get_or-append (put x) (rows put xs) d j k)
  rows-get_d (x ∷ xs) (suc i) j d h l m =
      rw (further i w j (length (put x)) (h 0 (omega arith)), get_or-append-add) (rows-get_d xs i j d (others x xs h) (omega arith) m)

  pub rows-set : (xs : List X) (i j v : ℕ) (y : X) → Wide put w x₀ xs → i < length xs → j < w
      → set (put (get_or xs i x₀)) j v ≡ put y → set (rows put xs) (i * w + j) v ≡ rows put (set xs i y)
  rows-set [] i j v y h l m e = absurd (not-suc-le-zero l)
  rows-set (x ∷ xs) zero j v y h l m e =
      let k : j < length (put x) = omega (arith, h 0 (omega arith)) in
      rw (zero-mul w, zero-add j, set-append_left (put x) (rows put xs) j v k, e)
  rows-set (x ∷ xs) (suc i) j v y h l m e =
      rw (further i w j (length (put x)) (h 0 (omega arith)), set-append-add, rows-set xs i j v y (others x xs h) (omega arith) m e)

  -- ---- the whole of row i

  pub rows_row : (xs : List X) (i : ℕ) → Wide put w x₀ xs → i < length xs
      → take w (drop (i * w) (rows put xs)) ≡ put (get_or xs i x₀)
  rows_row [] i h l = absurd (not-suc-le-zero l)
  rows_row (x ∷ xs) zero h l = rw zero-mul (take_at (put x) (rows put xs) w (h 0 (omega arith)))
  rows_row (x ∷ xs) (suc i) h l =
      let e : suc i * w ≡ length (put x) + i * w = omega (arith, suc-mul i w, h 0 (omega arith)) in
      rw (e, drop-append-add) (rows_row xs i (others x xs h) (omega arith))

  pub rows-splice : (xs : List X) (i : ℕ) (y : X) → Wide put w x₀ xs → i < length xs
      → take (i * w) (rows put xs) ++ (put y ++ drop (i * w + w) (rows put xs)) ≡ rows put (set xs i y)
  rows-splice [] i y h l = absurd (not-suc-le-zero l)
  rows-splice (x ∷ xs) zero y h l =
      rw (zero-mul, zero-add) (ap (λ (q : List ℕ). put y ++ q) (drop_at (put x) (rows put xs) w (h 0 (omega arith))))
  rows-splice (x ∷ xs) (suc i) y h l =
      let e : suc i * w ≡ length (put x) + i * w = omega (arith, suc-mul i w, h 0 (omega arith)) in
      let f : suc i * w + w ≡ length (put x) + (i * w + w) = omega (arith, suc-mul i w, h 0 (omega arith)) in
      rw (f, e, take-append-add, drop-append-add, append_assoc, rows-splice xs i y (others x xs h) (omega arith))

  -- its numbers written one after the other
  pub rows-sets : (xs : List X) (i : ℕ) (y : X) → Wide put w x₀ xs → i < length xs → length (put y) ≡ w
      → sets (rows put xs) (i * w) (put y) ≡ rows put (set xs i y)
  rows-sets xs i y h l e =
      let k : i * w + length (put y) ≤ length (rows put xs) = omega (arith, length-rows xs h, below i (length xs) w l) in
      sets-eq (put y) (rows put xs) (i * w) k ∙ rw (e, append_assoc) (rows-splice xs i y h l)

-- rows of zeros
pub rows-zeros : {X : Type 0} (put : X → List ℕ) (w n : ℕ) (x : X) → put x ≡ replicate w 0 → rows put (replicate n x) ≡ replicate (n * w) 0
rows-zeros put w zero x e = rw zero-mul
rows-zeros put w (suc n) x e =
    let k : suc n * w ≡ w + n * w = omega (arith, suc-mul n w) in
    rw (k, e, rows-zeros put w n x e) (replicate-append-replicate w (n * w) 0)

-- the same row n times: how long, and one more
module _ {X : Type 0} (put : X → List ℕ) (x : X) where
  pub repeat-length : (w n : ℕ) → length (put x) ≡ w → length (rows put (replicate n x)) ≡ n * w
  repeat-length w n e =
      length-rows put w x (replicate n x) (λ i l. ap (λ (y : X). length (put y)) (get_or-replicate n i x x (omega (arith, length-replicate n x))) ∙ e)
      ∙ ap (λ (m : ℕ). m * w) (length-replicate n x)

  pub rows-repeat : (n : ℕ) → rows put (replicate (suc n) x) ≡ rows put (replicate n x) ++ put x
  rows-repeat zero = append-nil (put x)
  rows-repeat (suc n) = ap (λ (r : List ℕ). put x ++ r) (rows-repeat n) ∙ sym (append_assoc (put x) (rows put (replicate n x)) (put x))

-- ---- rows read off a list

-- row i of a list of at least n rows
row-length : (w n i : ℕ) (ws : List ℕ) → i < n → n * w ≤ length ws → length (take w (drop (i * w) ws)) ≡ w
row-length w n i ws l h = simp (length-take, length-drop) (omega (arith, below i n w l))

module _ {X : Type 0} (get : List ℕ → X) (w : ℕ) (x₀ : X) where
  pub length-unrows : (n : ℕ) (ws : List ℕ) → length (unrows get w n ws) ≡ n
  length-unrows zero ws = refl
  length-unrows (suc n) ws = ap suc (length-unrows n (drop w ws))

  pub unrows-get_d : (n i : ℕ) (ws : List ℕ) → i < n → get_or (unrows get w n ws) i x₀ ≡ get (take w (drop (i * w) ws))
  unrows-get_d zero i ws l = absurd (not-suc-le-zero l)
  unrows-get_d (suc n) zero ws l = rw zero-mul
  unrows-get_d (suc n) (suc i) ws l =
      let e : suc i * w ≡ w + i * w = omega (arith, suc-mul i w) in
      unrows-get_d n i (drop w ws) (omega arith) ∙ rw (e, drop-drop (i * w) w ws)

  module _ (put : X → List ℕ) where
    pub unrows-rows : (xs : List X) (rest : List ℕ) → Wide put w x₀ xs
        → ((i : ℕ) → i < length xs → get (put (get_or xs i x₀)) ≡ get_or xs i x₀) → unrows get w (length xs) (rows put xs ++ rest) ≡ xs
    unrows-rows [] rest h g = refl
    unrows-rows (x ∷ xs) rest h g =
        let q : List ℕ = rows put xs ++ rest in
        rw (append_assoc, take_at (put x) q w (h 0 (omega arith)), drop_at (put x) q w (h 0 (omega arith)), g 0 (omega arith))
        (ap (λ (l : List X). x ∷ l) (unrows-rows xs rest (others put w x₀ x xs h) (λ i l. g (suc i) (omega arith))))

    pub rows-unrows : (n : ℕ) (ws : List ℕ)
        → ((i : ℕ) → i < n → put (get (take w (drop (i * w) ws))) ≡ take w (drop (i * w) ws)) → rows put (unrows get w n ws) ≡ take (n * w) ws
    rows-unrows zero ws g = rw zero-mul
    rows-unrows (suc n) ws g =
        let e : suc n * w ≡ w + n * w = omega (arith, suc-mul n w) in
        let z : put (get (take w ws)) ≡ take w ws = rw zero-mul at (g 0 (omega arith)) in
        let s : (i : ℕ) → i < n → put (get (take w (drop (i * w) (drop w ws)))) ≡ take w (drop (i * w) (drop w ws)) =
        λ i l. rw drop-drop (let f : w + i * w ≡ suc i * w = omega (arith, suc-mul i w) in rw f (g (suc i) (omega arith))) in
        rw (e, take-add, z, rows-unrows n (drop w ws) s)

  -- row i of n rows from o on
  pub unrows-at : (n o i : ℕ) (ws : List ℕ) → i < n → get_or (unrows get w n (drop o ws)) i x₀ ≡ get (take w (drop (o + i * w) ws))
  unrows-at n o i ws l = unrows-get_d n i (drop o ws) l ∙ rw drop-drop

-- ---- a part of a part

pub part-part : (v b w : ℕ) (l : List ℕ) → b + v ≤ w → take v (drop b (take w l)) ≡ take v (drop b l)
part-part v zero w l h = take-take v w l (omega arith)
part-part v (suc b) w [] h = rw (take-nil w)
part-part v (suc b) zero (x ∷ l) h = absurd (omega arith)
part-part v (suc b) (suc w) (x ∷ l) h = part-part v b w l (omega arith)

-- ---- a part of the middle list of three, read and replaced

module _ (p q r : List ℕ) (x w a : ℕ) (e : a ≡ length p + x) (h : x + w ≤ length q) where
  pub mid-part : take w (drop a (p ++ (q ++ r))) ≡ take w (drop x q)
  mid-part =
      let l : w ≤ length (drop x q) = simp length-drop (omega arith) in
      rw (e, drop-append-add, drop-append-le x q r (omega arith), take-append-le w (drop x q) r l)

  pub mid-splice : (v : List ℕ)
      → take a (p ++ (q ++ r)) ++ (v ++ drop (a + w) (p ++ (q ++ r))) ≡ p ++ ((take x q ++ (v ++ drop (x + w) q)) ++ r)
  mid-splice v =
      let f : a + w ≡ length p + (x + w) = omega arith in
      rw (f, e, take-append-add p (q ++ r) x, drop-append-add p (q ++ r) (x + w), take-append-le x q r (omega arith))
      (rw (drop-append-le (x + w) q r h) (simp append_assoc))

-- ---- records as rows of a codec, with more behind them

module _ {X : Type 0} {w : ℕ} (c : Codec X w) where
  pub codec-get : (x : X) (rest : List ℕ) → c.holds x ≡ true → c.get (c.put x ++ rest) ≡ x
  codec-get x rest h =
      sym (c.front (c.put x ++ rest)) ∙ (ap (λ (r : List ℕ). c.get r) (take_at (c.put x) rest w (c.width x)) ∙ c.back x h)

  pub codec-put : (r : List ℕ) → w ≤ length r → c.put (c.get r) ≡ take w r
  codec-put r h = ap (λ (x : X). c.put x) (sym (c.front r)) ∙ c.forth (take w r) (length-take-le w r h)

  pub codec-length : (xs : List X) → length (rows c.put xs) ≡ length xs * w
  codec-length xs = length-rows c.put w (c.get []) xs (λ i _. c.width (get_or xs i (c.get [])))

  pub codec-unrows : (xs : List X) (rest : List ℕ) → ((x : X) → c.holds x ≡ true) → unrows c.get w (length xs) (rows c.put xs ++ rest) ≡ xs
  codec-unrows xs rest h =
      let x₀ : X = c.get [] in
      unrows-rows c.get w x₀ c.put xs rest (λ i _. c.width (get_or xs i x₀)) (λ i _. c.back (get_or xs i x₀) (h (get_or xs i x₀)))

  pub codec-rows : (n : ℕ) (ws : List ℕ) → n * w ≤ length ws → rows c.put (unrows c.get w n ws) ≡ take (n * w) ws
  codec-rows n ws h =
      rows-unrows c.get w (c.get []) c.put n ws (λ i l. c.forth (take w (drop (i * w) ws)) (row-length w n i ws l h))
