-- A process as words and back, and a word of a stretch as a field of its process. Assumes nothing.
use Prim.Native.Nat.{ℕ, ◌+◌, ◌*◌, ◌<◌, ◌≤◌}
use mathlib.Core.List.{List, [], ◌++◌}
use mathlib.Core.Path.{◌≡◌, refl, sym, ap, ◌∙◌}
use native.Mathlib.Omega.{arith}
use lib.ListN.{length, drop, length-append, length-replicate, length-drop}
use lib.Seq.{get_or-drop}
use Rattle.lists.specs.Tests.{All}
use Rattle.lists.specs.Rows.{rows}
use Rattle.lists.proofs.Rows.{length-rows, length-unrows}
use Rattle.lists.proofs.RowParts.{unrows-word}
use Rattle.model.specs.Params.{Between, most_hazards, buffer_size, hazard_width, store_width, buffer_width}
use Rattle.model.specs.State.{Pending, Hazard, Process, empty_hazard, hazard_of}
use Rattle.layout.proofs.Encode.{process-back, process_width_lem}
use Rattle.layout.specs.Shape.{word, lead_of, hazard_place, stores_place}
use Rattle.layout.specs.Codecs.{lead_at, lead_words, hazard_at, hazard_words, pending_at, pending_words, hazard_codec}
use Rattle.layout.specs.Encode.{shape, buffer_words, process_words_by, process_by, process_words, process_at}
use Rattle.stretch.specs.Stretch.{Stretch}

-- the words of a process before its buffer, with n stores pending
abbrev pub front : ℕ → Process → List ℕ
front n x =
    lead_words (record { epoch = x.epoch; calls = x.calls; presence = x.presence; stores = n; present = x.present })
    ++ rows hazard_words x.hazards

pub front-buffer : (x : Process) → process_words x ≡ front (length x.buffer) x ++ buffer_words x.buffer
unfolding process_words_by
front-buffer x = refl

-- ---- widths

pub width-hazards : (hs : List Hazard) → length (rows hazard_words hs) ≡ length hs * hazard_width
width-hazards hs = length-rows hazard_words hazard_width empty_hazard hs (λ i l. refl)

pub width-stores : (b : List Pending) → length (rows pending_words b) ≡ length b * store_width
width-stores b = length-rows pending_words store_width (pending_at []) b (λ i l. refl)

pub width-buffer : (b : List Pending) → length b ≤ buffer_size → length (buffer_words b) ≡ buffer_width
width-buffer b h = simp (length-append, length-replicate) (omega (arith, width-stores b))

pub width-front : (n : ℕ) (x : Process) → length (front n x) ≡ stores_place shape (length x.hazards)
width-front n x = omega (arith, width-hazards x.hazards)

-- ---- there and back

pub stores-length : (k : ℕ) (r : List ℕ) → length (process_at k r).buffer ≡ (lead_at r).stores
unfolding process_by
stores-length k r = length-unrows pending_at store_width (pending_at []) (lead_at r).stores (drop (shape.lead_width + k * hazard_width) r)

pub hazards-length : (k : ℕ) (r : List ℕ) → length (process_at k r).hazards ≡ k
unfolding process_by
hazards-length k r = length-unrows hazard_at hazard_width empty_hazard k (drop shape.lead_width r)

module _ (x : Process) (k : ℕ) (hk : length x.hazards ≡ k) where
  pub stretch-of : (r : List ℕ) → r ≡ process_words x → length x.buffer ≤ buffer_size → Between 1 most_hazards k → All (λ e. e.hazard < k) x.buffer
      → Stretch k r
  stretch-of r e room few aimed =
      let back : process_at k r ≡ x = ap (λ (q : List ℕ). process_at k q) e ∙ process-back shape x k hk room refl in
      record {
        few = few;
        long = ap length e ∙ process_width_lem shape x k hk room;
        stores = stores-length k r;
        room = omega (arith, stores-length k r, ap (λ (y : Process). length y.buffer) back);
        whole = e ∙ ap process_words (sym back);
        aimed = rw back aimed;
      }

-- ---- a word of a stretch

module _ (k : ℕ) (r : List ℕ) where
  -- word j of hazard h
  pub hazard-word : (h j a : ℕ) → stores_place shape k ≤ length r → h < k → j < hazard_width → a ≡ hazard_place shape h + j
      → word (hazard_words (hazard_of (process_at k r) h)) j ≡ word r a
  unfolding process_by
  hazard-word h j a room l m e =
      let n : k * hazard_width ≤ length (drop shape.lead_width r) = simp length-drop (omega arith) in
      let f : shape.lead_width + (h * hazard_width + j) ≡ a = omega arith in
      unrows-word hazard_codec empty_hazard k h j 0 (drop shape.lead_width r) l n m ∙ (get_or-drop shape.lead_width r (h * hazard_width + j) 0 ∙ ap (λ (i : ℕ). word r i) f)

  -- the records that those words make
  pub lead_at_lem : lead_at r ≡ lead_of (process_at k r)
  unfolding process_by
  lead_at_lem = λ t. record { epoch = word r 0; calls = word r 1; presence = word r 2; stores = sym (stores-length k r) t; present = word r 4 }

  pub hazard_at_lem : (h a : ℕ) → stores_place shape k ≤ length r → h < k → a ≡ hazard_place shape h
      → record { visible = word r (a + 0); assigned = word r (a + 1); validated = word r (a + 2) } ≡ hazard_of (process_at k r) h
  hazard_at_lem h a room l e =
      sym
      (λ t. record {
        visible = hazard-word h 0 (a + 0) room l (omega arith) (omega arith) t;
        assigned = hazard-word h 1 (a + 1) room l (omega arith) (omega arith) t;
        validated = hazard-word h 2 (a + 2) room l (omega arith) (omega arith) t;
      })
