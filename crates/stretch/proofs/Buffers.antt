-- The buffer of a stretch lent and given back: the oldest store drained, all stores flushed. Assumes nothing.
use Prim.Native.Nat.{ℕ, ◌+◌, ◌*◌, ◌-◌, ◌<◌, ◌≤◌}
use mathlib.Core.List.{List, [], ◌∷◌, ◌++◌, append-nil}
use mathlib.Core.Logic.{◌≢◌}
use mathlib.Core.Path.{◌≡◌, refl, sym, ap, ap₂, ◌∙◌}
use native.Mathlib.Omega.{arith}
use native.Mathlib.Numerals.{add-one}
use lib.ListN.{length, take, drop, get_or, set, replicate, length-drop, length-set}
use lib.Seq.{drop-cons, drop-length}
use borrow.Rule.Slice.PartMut.{put_mid}
use Rattle.lists.specs.Rows.{rows}
use Rattle.lists.proofs.RowParts.{zeros-more, lent-part, put-part}
use Rattle.model.specs.Params.{buffer_size, store_width, buffer_width}
use Rattle.model.specs.State.{Pending, Process, with_stores}
use Rattle.model.specs.Hazards.{committing, drained, flushed}
use Rattle.layout.specs.Shape.{stores_place}
use Rattle.layout.specs.Codecs.{stores_word, lead_at, pending_words}
use Rattle.layout.specs.Encode.{shape, buffer_words, process_words, process_at}
use Rattle.stretch.specs.Stretch.{Stretch}
use Rattle.stretch.specs.Stores.{no_store, store_of}
use Rattle.stretch.proofs.Words.{front, front-buffer, width-front, width-buffer, width-stores, hazards-length}
use Rattle.stretch.proofs.Words.{stretch-of}
use Rattle.layout.proofs.Encode.{process-back, process_width_lem}

-- the first words of a buffer, t, lent, with m stores said to be pending
module _ (y : Process) (m a w : ℕ) (t z r : List ℕ) (eb : buffer_words y.buffer ≡ t ++ z) (ea : a ≡ stores_place shape (length y.hazards))
    (ew : length t ≡ w) (er : r ≡ set (process_words y) stores_word m) where
  split : r ≡ front m y ++ (t ++ z)
  split = er ∙ (ap (λ (ws : List ℕ). set ws stores_word m) (front-buffer y) ∙ ap (λ (q : List ℕ). front m y ++ q) eb)

  pub buffer_lent : take w (drop a r) ≡ t
  buffer_lent =
      ap (λ (q : List ℕ). take w (drop a q)) split ∙ lent-part a w (front m y) t z (width-front m y ∙ sym ea) ew

  pub buffer-back : (b : List Pending) (ys : List ℕ) → m ≡ length b → ys ++ z ≡ buffer_words b
      → put_mid a w r ys ≡ process_words (with_stores y b y.hazards)
  buffer-back b ys em ey =
      ap (λ (q : List ℕ). put_mid a w q ys) split
      ∙ (put-part a w (front m y) t z (width-front m y ∙ sym ea) ew ys
      ∙ (ap₂ (λ (n : ℕ) (q : List ℕ). front n y ++ q) em ey ∙ sym (front-buffer (with_stores y b y.hazards))))

-- ---- the oldest store

drained-is : (x : Process) (b : List Pending) → length b ≢ 0 → committing x (get_or b 0 no_store) (drop 1 b) ≡ drained x b
drained-is x [] h = absurd (h refl)
drained-is x (e ∷ b) h = refl

buffer-less : (b : List Pending) → length b ≢ 0 → length b ≤ buffer_size → drop store_width (buffer_words b) ++ (0 ∷ 0 ∷ 0 ∷ []) ≡ buffer_words (drop 1 b)
buffer-less [] h l = absurd (h refl)
buffer-less (e ∷ b) h l =
    zeros-more (rows pending_words b) (buffer_width - length (e ∷ b) * store_width) store_width (buffer_width - length b * store_width) (omega arith)

module _ (k : ℕ) (r : List ℕ) (s : Stretch k r) where
  pub drains : (a : ℕ) (r₁ r₂ ys : List ℕ) → a ≡ stores_place shape k → length (process_at k r).buffer ≢ 0
      → r₁ ≡ process_words (committing (process_at k r) (store_of (process_at k r) 0) (process_at k r).buffer)
      → r₂ ≡ set r₁ stores_word ((lead_at r).stores - 1)
      → ys ≡ drop store_width (take (length r₂ - a) (drop a r₂)) ++ (0 ∷ 0 ∷ 0 ∷ [])
      → put_mid a (length r₂ - a) r₂ ys ≡ process_words (drained (process_at k r) (process_at k r).buffer)
  drains a r₁ r₂ ys e h e₁ e₂ ey =
      let x : Process = process_at k r in
      let b : List Pending = x.buffer in
      let y : Process = committing x (store_of x 0) b in
      let n : ℕ = (lead_at r).stores - 1 in
      let hk : length y.hazards ≡ k = simp length-set (hazards-length k r) in
      let full : length b ≤ buffer_size = omega (arith, s.stores, s.room) in
      let long : length r₂ ≡ length (process_words y) = ap length e₂ ∙ (simp length-set (ap length e₁)) in
      let eb : buffer_words b ≡ buffer_words b ++ [] = sym (append-nil (buffer_words b)) in
      let ea : a ≡ stores_place shape (length y.hazards) = omega arith in
      let et : length (buffer_words b) ≡ length r₂ - a = omega (arith, width-buffer b full, process_width_lem shape y k hk full) in
      let er : r₂ ≡ set (process_words y) stores_word n = e₂ ∙ ap (λ (q : List ℕ). set q stores_word n) e₁ in
      let less : n ≡ length (drop 1 b) = simp length-drop (omega (arith, s.stores)) in
      let lent : take (length r₂ - a) (drop a r₂) ≡ buffer_words b =
      buffer_lent y n a (length r₂ - a) (buffer_words b) [] r₂ eb ea et er in
      let moved : ys ≡ buffer_words (drop 1 b) =
      ey ∙ (ap (λ (q : List ℕ). drop store_width q ++ (0 ∷ 0 ∷ 0 ∷ [])) lent ∙ buffer-less b h full) in
      buffer-back y n a (length r₂ - a) (buffer_words b) [] r₂ eb ea et er (drop 1 b) ys less (append-nil ys ∙ moved)
      ∙ ap process_words (drained-is x b h)

-- ---- all stores

-- the stores b of x flushed
abbrev flush_all : Process → List Pending → Process
flush_all x b = flushed (with_stores x b x.hazards) b

-- after i turns over the stores of r₀ the words are r: what is left to flush makes of r what all makes of r₀
pub record Flushing (k : ℕ) (r₀ r : List ℕ) (i : ℕ) : Type 0 where
  pub stretch : Stretch k r
  pub buffer : (process_at k r).buffer ≡ (process_at k r₀).buffer
  pub rest : flush_all (process_at k r) (drop i (process_at k r₀).buffer) ≡ flushed (process_at k r₀) (process_at k r₀).buffer

flush-one : (x : Process) (b c : List Pending) (i : ℕ) → i < length c → b ≡ c
    → flush_all (committing x (get_or b i no_store) b) (drop (i + 1) c) ≡ flush_all x (drop i c)
flush-one x b c i l e =
    rw (add-one, e) (ap (λ (d : List Pending). flush_all x d) (sym (drop-cons c i no_store l)))

module _ (k i : ℕ) (r₀ r : List ℕ) (f : Flushing k r₀ r i) where
  pub flush-turn : (r₁ : List ℕ) → i < length (process_at k r₀).buffer
      → r₁ ≡ process_words (committing (process_at k r) (store_of (process_at k r) i) (process_at k r).buffer) → Flushing k r₀ r₁ (i + 1)
  flush-turn r₁ l e =
      let x : Process = process_at k r in
      let b : List Pending = (process_at k r₀).buffer in
      let y : Process = committing x (store_of x i) x.buffer in
      let hk : length y.hazards ≡ k = simp length-set (hazards-length k r) in
      let full : length x.buffer ≤ buffer_size = omega (arith, f.stretch.stores, f.stretch.room) in
      let back : process_at k r₁ ≡ y = ap (λ (q : List ℕ). process_at k q) e ∙ process-back shape y k hk full refl in
      record {
        stretch = stretch-of y k hk r₁ e full f.stretch.few f.stretch.aimed;
        buffer = ap (λ (p : Process). p.buffer) back ∙ f.buffer;
        rest = ap (λ (p : Process). flush_all p (drop (i + 1) b)) back ∙ (flush-one x x.buffer b i l f.buffer ∙ f.rest);
      }

  -- the words of the stores, and how many there are, become 0
  pub flush-ends : (a n : ℕ) (r₁ ys : List ℕ) → a ≡ stores_place shape k → i ≡ length (process_at k r₀).buffer → i ≡ n
      → r₁ ≡ set r stores_word 0 → ys ≡ replicate (length (take (a + store_width * n - a) (drop a r₁))) 0
      → put_mid a (a + store_width * n - a) r₁ ys ≡ process_words (flushed (process_at k r₀) (process_at k r₀).buffer)
  flush-ends a n r₁ ys e el en e₁ ey =
      let y : Process = process_at k r in
      let b : List Pending = (process_at k r₀).buffer in
      let w : ℕ = a + store_width * n - a in
      let t : List ℕ = rows pending_words y.buffer in
      let m : ℕ = buffer_width - length y.buffer * store_width in
      let ea : a ≡ stores_place shape (length y.hazards) = omega (arith, hazards-length k r) in
      let et : length t ≡ w = omega (arith, width-stores y.buffer, ap length f.buffer) in
      let er : r₁ ≡ set (process_words y) stores_word 0 = e₁ ∙ ap (λ (q : List ℕ). set q stores_word 0) f.stretch.whole in
      let lent : take w (drop a r₁) ≡ t = buffer_lent y 0 a w t (replicate m 0) r₁ refl ea et er in
      let zeros : ys ≡ replicate (length t) 0 = ey ∙ ap (λ (q : List ℕ). replicate (length q) 0) lent in
      let none : length t + m ≡ buffer_width = omega (arith, width-stores y.buffer, f.stretch.stores, f.stretch.room) in
      let cleared : ys ++ replicate m 0 ≡ replicate buffer_width 0 = rw zeros (zeros-more [] (length t) m buffer_width none) in
      let done : drop i b ≡ [] = ap (λ (j : ℕ). drop j b) el ∙ drop-length b in
      buffer-back y 0 a w t (replicate m 0) r₁ refl ea et er [] ys refl cleared
      ∙ ap process_words (ap (λ (d : List Pending). flush_all y d) (sym done) ∙ f.rest)
