-- Words of a process written: some of its lead, some of a hazard, and a store after the last. Assumes nothing.
use Prim.Native.Nat.{ℕ, suc, ◌+◌, ◌*◌, ◌-◌, ◌<◌, ◌≤◌}
use mathlib.Core.List.{List, [], ◌∷◌, ◌++◌, append_assoc}
use mathlib.Core.Path.{◌≡◌, refl, sym, ap, ap₂, ◌∙◌}
use native.Mathlib.Omega.{arith}
use native.Mathlib.Nat.{add-zero}
use lib.ListN.{length, set, replicate, length-append, length-set}
use lib.Seq.{sets}
use Rattle.lists.specs.Rows.{rows}
use Rattle.lists.proofs.RowParts.{sets-append-add, sets-append-left, rows-part, rows_append}
use Rattle.model.specs.Params.{buffer_size, hazard_width, store_width, buffer_width}
use Rattle.model.specs.State.{Pending, Hazard, Process, empty_hazard, hazard_of, set_hazard, with_stores, with_words}
use Rattle.model.specs.State.{with_present}
use Rattle.model.specs.Hazards.{pending, assigning, validating}
use Rattle.layout.specs.Shape.{lead_of, hazard_place, store_place}
use Rattle.layout.specs.Codecs.{stores_word, present_word, lead_at, lead_words, hazard_words, pending_words}
use Rattle.layout.specs.Encode.{shape, buffer_words, process_words_by, process_words, process_at}
use Rattle.stretch.specs.Stretch.{Stretch}
use Rattle.stretch.proofs.Words.{front, front-buffer, width-front, width-hazards, width-stores, hazards-length}

-- the words vs of hazard h, from its word j on
pub hazard-sets : (x : Process) (h j a : ℕ) (vs : List ℕ) (y : Hazard) → h < length x.hazards → j + length vs ≤ hazard_width → a ≡ hazard_place shape h + j
    → sets (hazard_words (hazard_of x h)) j vs ≡ hazard_words y → sets (process_words x) a vs ≡ process_words (with_stores x x.buffer (set_hazard x h y))
unfolding process_words_by
hazard-sets x h j a vs y l m e f =
    let hs : List ℕ = rows hazard_words x.hazards in
    let bs : List ℕ = buffer_words x.buffer in
    let at : a ≡ shape.lead_width + (h * hazard_width + j) = omega arith in
    let inside : h * hazard_width + j + length vs ≤ length hs = omega (arith, width-hazards x.hazards) in
    rw at (sets-append-add vs (lead_words (lead_of x)) (hs ++ bs) (h * hazard_width + j))
    ∙ ap (λ (q : List ℕ). lead_words (lead_of x) ++ q)
    (sets-append-left vs hs bs (h * hazard_width + j) inside
    ∙ ap (λ (q : List ℕ). q ++ bs) (rows-part hazard_words hazard_width empty_hazard x.hazards h j vs y (λ i b. refl) l m f))

-- a store put after the last: in the buffer, and in the process
buffer-more : (b : List Pending) (e : Pending) → length b < buffer_size → sets (buffer_words b) (length b * store_width) (pending_words e) ≡ buffer_words (b ++ (e ∷ []))
buffer-more b e l =
    let bs : List ℕ = rows pending_words b in
    let m : ℕ = buffer_width - (length b + 1) * store_width in
    let free : buffer_width - length b * store_width ≡ suc (suc (suc m)) = omega arith in
    let left : m ≡ buffer_width - length (b ++ (e ∷ [])) * store_width = omega (arith, length-append b (e ∷ [])) in
    let at : length b * store_width ≡ length bs + 0 = omega (arith, width-stores b) in
    ap₂ (λ (i f : ℕ). sets (bs ++ replicate f 0) i (pending_words e)) at free
    ∙ (sets-append-add (pending_words e) bs (replicate (suc (suc (suc m))) 0) 0
    ∙ (sym (append_assoc bs (pending_words e) (replicate m 0))
    ∙ ap₂ (λ (q : List ℕ) (f : ℕ). q ++ replicate f 0) (sym (rows_append pending_words b (e ∷ []))) left))

store-added : (x : Process) (e : Pending) (a : ℕ) → length x.buffer < buffer_size → a ≡ store_place shape (length x.hazards) (length x.buffer)
    → sets (set (process_words x) stores_word (length x.buffer + 1)) a (pending_words e) ≡ process_words (with_stores x (x.buffer ++ (e ∷ [])) x.hazards)
store-added x e a l f =
    let n : ℕ = length x.buffer in
    let m : n + 1 ≡ length (x.buffer ++ (e ∷ [])) = omega (arith, length-append x.buffer (e ∷ [])) in
    let at : a ≡ length (front (n + 1) x) + n * store_width = omega (arith, width-front (n + 1) x) in
    ap₂ (λ (ws : List ℕ) (i : ℕ). sets (set ws stores_word (n + 1)) i (pending_words e)) (front-buffer x) at
    ∙ (sets-append-add (pending_words e) (front (n + 1) x) (buffer_words x.buffer) (n * store_width)
    ∙ (ap₂ (λ (i : ℕ) (q : List ℕ). front i x ++ q) m (buffer-more x.buffer e l)
    ∙ sym (front-buffer (with_stores x (x.buffer ++ (e ∷ [])) x.hazards))))

-- whether a process is present, in the words that hold it
pub present-written : {r : List ℕ} (x : Process) (t : ℕ) → r ≡ process_words x → set r present_word t ≡ process_words (with_present x t)
unfolding process_words_by
present-written x t e = ap (λ (ws : List ℕ). set ws present_word t) e

module _ (k : ℕ) (r : List ℕ) (s : Stretch k r) where
  pub lead-written : (e c p : ℕ) → sets r 0 (e ∷ c ∷ p ∷ []) ≡ process_words (with_words (process_at k r) e c p)
  unfolding process_words_by
  lead-written e c p = ap (λ (ws : List ℕ). sets ws 0 (e ∷ c ∷ p ∷ [])) s.whole

  -- the words vs of hazard h, from its word j on
  pub hazard-written : (h j a : ℕ) (vs : List ℕ) (y : Hazard) → h < k → j + length vs ≤ hazard_width → a ≡ hazard_place shape h + j
      → sets (hazard_words (hazard_of (process_at k r) h)) j vs ≡ hazard_words y
      → sets r a vs ≡ process_words (with_stores (process_at k r) (process_at k r).buffer (set_hazard (process_at k r) h y))
  hazard-written h j a vs y l m e f =
      ap (λ (ws : List ℕ). sets ws a vs) s.whole
      ∙ hazard-sets (process_at k r) h j a vs y (omega (arith, hazards-length k r)) m e f

  pub validated : (h a : ℕ) → h < k → a ≡ hazard_place shape h + 2 → set r a 1 ≡ process_words (validating (process_at k r) h)
  validated h a l e = hazard-written h 2 a (1 ∷ []) _ l (omega arith) e refl

  -- the node and the store of it, written in this order: hazard, stores, buffer
  pub assigned : (h v t a b : ℕ) → h < k → (lead_at r).stores < buffer_size → a ≡ hazard_place shape h → b ≡ store_place shape k (lead_at r).stores
      → set (set (set (set (set (set r (a + 1) v) (a + 2) 0) stores_word ((lead_at r).stores + 1)) (b + 0) h) (b + 1) v) (b + 2) t
      ≡ process_words (assigning (process_at k r) h v t)
  assigned h v t a b l m e f =
      let x : Process = process_at k r in
      let y : Hazard = record { visible = (hazard_of x h).visible; assigned = v; validated = 0 } in
      let z : Process = with_stores x x.buffer (set_hazard x h y) in
      let n : length z.hazards ≡ k = length-set x.hazards h y ∙ hazards-length k r in
      let a2 : a + 2 ≡ suc (a + 1) = omega arith in
      let b1 : b + 1 ≡ suc b = omega arith in
      let b2 : b + 2 ≡ suc (suc b) = omega arith in
      rw (add-zero b, a2, b1, b2)
      (ap₂ (λ (ws : List ℕ) (i : ℕ). sets (set ws stores_word (i + 1)) b (pending_words (pending h v t)))
      (hazard-written h 1 (a + 1) (v ∷ 0 ∷ []) y l (omega arith) (omega arith) refl)
      (sym s.stores)
      ∙ store-added z (pending h v t) b (omega (arith, s.stores)) (omega (arith, s.stores)))
