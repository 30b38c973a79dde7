-- A pending store of a stretch, read and committed. Assumes nothing.
use Prim.Native.Nat.{ℕ, ◌+◌, ◌*◌, ◌<◌, ◌≤◌}
use mathlib.Core.List.{List, [], ◌∷◌}
use mathlib.Core.Path.{◌≡◌, refl, sym, ap, ap₂, ◌∙◌}
use native.Mathlib.Omega.{arith}
use lib.ListN.{length, set, drop, length-drop}
use lib.Seq.{get_or-drop}
use Rattle.lists.proofs.Facts.{all-at}
use Rattle.lists.proofs.RowParts.{unrows-word}
use Rattle.model.specs.Params.{hazard_width, store_width}
use Rattle.model.specs.State.{Pending, Process}
use Rattle.model.specs.Hazards.{committing}
use Rattle.layout.specs.Shape.{word, hazard_place, store_place}
use Rattle.layout.specs.Codecs.{lead_at, pending_words, pending_codec}
use Rattle.layout.specs.Encode.{shape, process_by, process_words, process_at}
use Rattle.stretch.specs.Stretch.{Stretch}
use Rattle.stretch.proofs.Writes.{hazard-written}
use Rattle.stretch.specs.Stores.{no_store, store_of}

-- word j of pending store e
store_word : (k : ℕ) (r : List ℕ) (e j a : ℕ) → store_place shape k (lead_at r).stores ≤ length r → e < (lead_at r).stores → j < hazard_width → a ≡ store_place shape k e + j
    → word (pending_words (store_of (process_at k r) e)) j ≡ word r a
unfolding process_by
store_word k r e j a room l m q =
    let n : (lead_at r).stores * store_width ≤ length (drop (shape.lead_width + k * hazard_width) r) = simp length-drop (omega arith) in
    let f : shape.lead_width + k * hazard_width + (e * store_width + j) ≡ a = omega arith in
    unrows-word pending_codec no_store (lead_at r).stores e j 0 (drop (shape.lead_width + k * hazard_width) r) l n m
    ∙ (get_or-drop (shape.lead_width + k * hazard_width) r (e * store_width + j) 0 ∙ ap (λ (i : ℕ). word r i) f)

module _ (k : ℕ) (r : List ℕ) (s : Stretch k r) (e : ℕ) (l : e < length (process_at k r).buffer) where
  -- word j of pending store e
  store_at_lem : (j a : ℕ) → j < hazard_width → a ≡ store_place shape k e + j → word (pending_words (store_of (process_at k r) e)) j ≡ word r a
  store_at_lem j a m f = store_word k r e j a (omega (arith, s.long, s.room)) (omega (arith, s.stores)) m f

  low : (store_of (process_at k r) e).hazard < k
  low = all-at (λ p. p.hazard < k) (process_at k r).buffer e no_store s.aimed l

  pub target_at : (a : ℕ) → a ≡ store_place shape k e → word r a ≡ (store_of (process_at k r) e).hazard
  target_at a f = sym (store_at_lem 0 a (omega arith) (omega arith))

  pub stored_at : (a : ℕ) → a ≡ store_place shape k e + 1 → word r a ≡ (store_of (process_at k r) e).node
  stored_at a f = sym (store_at_lem 1 a (omega arith) f)

  -- the store names one of the k hazards
  pub aims : (a : ℕ) → a ≡ store_place shape k e → word r a < k
  aims a f = omega (arith, low, target_at a f)

  -- whose words are inside
  pub lands : (h a d : ℕ) → a ≡ store_place shape k e → h ≡ word r a → d ≡ hazard_place shape h → d < length r
  lands h a d f g o = omega (arith, s.long, aims a f)

  pub committed : (h a b d : ℕ) → a ≡ store_place shape k e → h ≡ word r a → b ≡ a + 1 → d ≡ hazard_place shape h
      → set r d (word r b) ≡ process_words (committing (process_at k r) (store_of (process_at k r) e) (process_at k r).buffer)
  committed h a b d f g q o =
      let x : Process = process_at k r in
      let p : Pending = store_of x e in
      let hazard : h ≡ p.hazard = g ∙ target_at a f in
      ap₂ (λ (i v : ℕ). set r i v) o (stored_at b (omega arith))
      ∙ hazard-written k r s p.hazard 0 (hazard_place shape h) (p.node ∷ []) _ low (omega arith) (omega arith) refl

  pub time-at : (a : ℕ) → a ≡ store_place shape k e + 2 → word r a ≡ (store_of (process_at k r) e).time
  time-at a f = sym (store_at_lem 2 a (omega arith) f)
