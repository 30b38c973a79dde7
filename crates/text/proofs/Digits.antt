-- Digits stored from the last to the first, how many a small number has, one text after another, and a text copied. Assumes nothing.
use Prim.Native.Nat.{ℕ, zero, suc, ◌+◌, ◌-◌, ◌/◌, ◌%◌, ◌<◌, ◌≤◌}
use mathlib.Core.List.{List, [], ◌∷◌, ◌++◌, append_assoc}
use mathlib.Core.Path.{◌≡◌, refl, sym, ap, ◌∙◌}
use mathlib.Core.Logic.{◌≢◌}
use native.Mathlib.Omega.{arith}
use lib.ListN.{length, take, drop, set, length-append}
use lib.Seq.{sets, sets-eq, set_comm}
use borrow.Rule.Slice.PartMut.{put_mid}
use Rattle.std.proofs.lemmas.List.{drop-drop}
use borrow.Author.Tests.{lt-ltb}
use Rattle.lists.proofs.RowParts.{take-sets}
use Rattle.text.specs.Text.{digits, digit_count, Put, number_text, number_size}

-- the last of a run may be stored first
sets_last : (vs l : List ℕ) (i v : ℕ) → sets (set l (i + length vs) v) i vs ≡ sets l i (vs ++ (v ∷ []))
sets_last [] l i v = let e : i + 0 ≡ i = omega arith in ap (λ (k : ℕ). set l k v) e
sets_last (x ∷ xs) l i v =
    let e : i + suc (length xs) ≡ suc i + length xs = omega arith in
    let f : i + suc (length xs) ≢ i = λ q. let z : suc (length xs) ≡ 0 = omega arith in omega arith in
    ap (λ (r : List ℕ). sets r (suc i) xs) (set_comm l (i + suc (length xs)) i v x f)
    ∙ ap (λ (k : ℕ). sets (set (set l i x) k v) (suc i) xs) e
    ∙ sets_last xs (set l i x) (suc i) v

digits-length : (k n : ℕ) → length (digits k n) ≡ k
unfolding digits
digits-length zero n = refl
digits-length (suc k) n =
    length-append (digits k (n / 10)) ((48 + n % 10) ∷ []) ∙ (let e = digits-length k (n / 10) in omega arith)

-- one digit stored: what is left of them goes before it
stored : (page : List ℕ) (at j rest : ℕ)
    → sets (set page (at + j) (48 + rest % 10)) at (digits j (rest / 10)) ≡ sets page at (digits (suc j) rest)
unfolding digits
stored page at j rest =
    sym (ap (λ (k : ℕ). sets (set page (at + k) (48 + rest % 10)) at (digits j (rest / 10))) (digits-length j (rest / 10)))
    ∙ sets_last (digits j (rest / 10)) page at (48 + rest % 10)

pub again : (page : List ℕ) (at i rest b : ℕ) → at < i → b ≡ 48 + rest % 10
    → sets (set page (i - 1) b) at (digits (i - 1 - at) (rest / 10)) ≡ sets page at (digits (i - at) rest)
again page at i rest b h e =
    let f : i - 1 ≡ at + (i - 1 - at) = omega arith in
    let g : suc (i - 1 - at) ≡ i - at = omega arith in
    (λ t. sets (set page (f t) (e t)) at (digits (i - 1 - at) (rest / 10)))
    ∙ stored page at (i - 1 - at) rest
    ∙ ap (λ (k : ℕ). sets page at (digits k rest)) g

text-length : (n after : ℕ) → length (number_text n after) ≡ number_size n
text-length n after =
    length-append (digits (digit_count n) n) (after ∷ []) ∙ (let e = digits-length (digit_count n) n in omega arith)

-- all digits are stored, and the byte after them was stored first
pub ended : (page start : List ℕ) (at i n k rest after r : ℕ) → i ≡ at → k ≡ digit_count n → r ≡ at + k + 1
    → sets page at (digits (i - at) rest) ≡ sets (set start (at + k) after) at (digits (at + k - at) n)
    → Put start at (number_text n after) (number_size n) page r
unfolding digits
ended page start at i n k rest after r e c q h =
    let z : i - at ≡ 0 = omega arith in
    let w : at + k - at ≡ digit_count n = omega arith in
    let v : at + k ≡ at + length (digits (digit_count n) n) = omega (arith, digits-length (digit_count n) n) in
    record {
      bytes = sym (ap (λ (j : ℕ). sets page at (digits j rest)) z) ∙ h
          ∙ (λ t. sets (set start (v t) after) at (digits (w t) n))
          ∙ sets_last (digits (digit_count n) n) start at after;
      long = text-length n after;
      ends = omega arith;
    }

-- ---- a single digit

pub one-digit : (n : ℕ) → n < 10 → digit_count n ≡ 1
unfolding digit_count
one-digit n h = rw (lt-ltb n 10 h)

pub alone : (page : List ℕ) (at n after b r : ℕ) → n < 10 → b ≡ 48 + n → r ≡ at + 2
    → Put page at (number_text n after) (number_size n) (set (set page at b) (at + 1) after) r
unfolding digits
alone page at n after b r h e q =
    let m : b ≡ 48 + n % 10 = omega arith in
    let s : at + 1 ≡ suc at = omega arith in
    let c = one-digit n h in
    record {
      bytes = (λ t. set (set page at (m t)) (s t) after) ∙ sym (ap (λ (k : ℕ). sets page at (digits k n ++ (after ∷ []))) c);
      long = text-length n after;
      ends = omega arith;
    }

-- ---- one text after another

sets-append : (us vs l : List ℕ) (i : ℕ) → sets (sets l i us) (i + length us) vs ≡ sets l i (us ++ vs)
sets-append [] vs l i = let e : i + 0 ≡ i = omega arith in ap (λ (k : ℕ). sets l k vs) e
sets-append (u ∷ us) vs l i =
    let e : i + suc (length us) ≡ suc i + length us = omega arith in
    ap (λ (k : ℕ). sets (sets (set l i u) (suc i) us) k vs) e ∙ sets-append us vs (set l i u) (suc i)

pub put_then : (page : List ℕ) (at : ℕ) (us : List ℕ) (m : ℕ) (page₁ : List ℕ) (at₁ : ℕ) (vs : List ℕ) (n : ℕ) (page₂ : List ℕ) (at₂ : ℕ)
    → Put page at us m page₁ at₁ → Put page₁ at₁ vs n page₂ at₂ → Put page at (us ++ vs) (m + n) page₂ at₂
put_then page at us m page₁ at₁ vs n page₂ at₂ p q =
    let e : at₁ ≡ at + length us = omega (arith, p.ends, p.long) in
    record {
      bytes = q.bytes ∙ (λ t. sets (p.bytes t) (e t) vs) ∙ sets-append us vs page at;
      long = omega (arith, p.long, q.long, length-append us vs);
      ends = omega (arith, p.ends, q.ends);
    }

-- what stands before the place where it ends
pub put-take : (page : List ℕ) (at : ℕ) (text : List ℕ) (n : ℕ) (page' : List ℕ) (at' : ℕ) → Put page at text n page' at'
    → at + n ≤ length page → take at' page' ≡ take at page ++ text
put-take page at text n page' at' p h =
    ap (λ (x : List ℕ). take at' x) p.bytes
    ∙ take-sets text page at at' (omega (arith, p.ends, p.long)) (omega (arith, p.ends))

-- ---- a text copied

pub copied : (page text : List ℕ) (at e : ℕ) → at + length text ≤ length page → e ≡ at + length text
    → Put page at text (length text) (put_mid at (e - at) page text) e
copied page text at e h q =
    let n : e - at ≡ length text = omega arith in
    record {
      bytes = ap (λ (k : ℕ). put_mid at k page text) n
          ∙ ap (λ (r : List ℕ). take at page ++ (text ++ r)) (drop-drop (length text) at page)
          ∙ sym (sets-eq text page at h ∙ append_assoc (take at page) text (drop (at + length text) page));
      long = refl;
      ends = q;
    }
