-- The records whose words stand at a place of a list, and where a decoded process has its lead, its hazards and its pending stores.
-- Assumes nothing.
use Prim.Native.Nat.{ℕ, ◌+◌, ◌*◌, ◌<◌, ◌≤◌}
use mathlib.Core.List.{List, []}
use mathlib.Core.Path.{◌≡◌, sym, ◌∙◌, ap}
use native.Mathlib.Omega.{arith}
use lib.ListN.{take, drop, get_or}
use lib.Seq.{get_or-take, get_or-drop, drop-drop}
use Rattle.lists.specs.Rows.{Codec}
use Rattle.lists.proofs.Rows.{unrows-at, part-part}
use Rattle.model.specs.Params.{buffer_size, hazard_width, store_width, node_width}
use Rattle.model.specs.State.{Pending, Hazard, Node, empty_hazard}
use Rattle.layout.specs.Shape.{Shape, Lead, word, hazard_place, store_place, process_width}
use Rattle.layout.specs.Codecs.{lead_at, hazard_at, pending_at, node_at}
use Rattle.layout.specs.Encode.{process_by}

abbrev pub hazard_from : List ℕ → ℕ → Hazard
hazard_from ws a = record { visible = word ws a; assigned = word ws (a + 1); validated = word ws (a + 2) }

abbrev pub pending_from : List ℕ → ℕ → Pending
pending_from ws a = record { hazard = word ws a; node = word ws (a + 1); time = word ws (a + 2) }

abbrev pub node_from : List ℕ → ℕ → Node
node_from ws a =
    record {
      state = word ws a;
      owner = word ws (a + 1);
      guest = word ws (a + 2);
      retired_at = word ws (a + 3);
      limbo = word ws (a + 4);
    }

abbrev pub lead_from : List ℕ → ℕ → Lead
lead_from ws a =
    record {
      epoch = word ws (a + 0);
      calls = word ws (a + 1);
      presence = word ws (a + 2);
      stores = word ws (a + 3);
      present = word ws (a + 4);
    }

pub lead_from_lem : (ws : List ℕ) (a : ℕ) → lead_at (drop a ws) ≡ lead_from ws a
lead_from_lem ws a =
    λ t. record {
      epoch = get_or-drop a ws 0 0 t;
      calls = get_or-drop a ws 1 0 t;
      presence = get_or-drop a ws 2 0 t;
      stores = get_or-drop a ws 3 0 t;
      present = get_or-drop a ws 4 0 t;
    }

-- a word of a part
pub part-word : (ws : List ℕ) (w a j b : ℕ) → j < w → b ≡ a + j → word (take w (drop a ws)) j ≡ word ws b
part-word ws w a j b h e = get_or-take w (drop a ws) j 0 h ∙ (get_or-drop a ws j 0 ∙ ap (λ (n : ℕ). word ws n) (sym e))

module _ (ws : List ℕ) (a b : ℕ) (e : b ≡ a) where
  pub hazard_from_lem : hazard_at (take hazard_width (drop b ws)) ≡ hazard_from ws a
  hazard_from_lem =
      λ t. record {
        visible = part-word ws hazard_width b 0 a (omega arith) (omega arith) t;
        assigned = part-word ws hazard_width b 1 (a + 1) (omega arith) (omega arith) t;
        validated = part-word ws hazard_width b 2 (a + 2) (omega arith) (omega arith) t;
      }

  pub pending_from_lem : pending_at (take store_width (drop b ws)) ≡ pending_from ws a
  pending_from_lem =
      λ t. record {
        hazard = part-word ws hazard_width b 0 a (omega arith) (omega arith) t;
        node = part-word ws hazard_width b 1 (a + 1) (omega arith) (omega arith) t;
        time = part-word ws hazard_width b 2 (a + 2) (omega arith) (omega arith) t;
      }

  pub node_from_lem : node_at (take node_width (drop b ws)) ≡ node_from ws a
  node_from_lem =
      λ t. record {
        state = part-word ws node_width b 0 a (omega arith) (omega arith) t;
        owner = part-word ws node_width b 1 (a + 1) (omega arith) (omega arith) t;
        guest = part-word ws node_width b 2 (a + 2) (omega arith) (omega arith) t;
        retired_at = part-word ws node_width b 3 (a + 3) (omega arith) (omega arith) t;
        limbo = part-word ws node_width b 4 (a + 4) (omega arith) (omega arith) t;
      }

-- a codec reads no further than its width
pub front-more : {X : Type 0} {w : ℕ} (c : Codec X w) (n : ℕ) (r : List ℕ) → w ≤ n → c.get (take n r) ≡ c.get r
front-more {w = w} c n r h =
    sym (c.front (take n r)) ∙ (ap (λ (q : List ℕ). c.get q) (part-part w 0 n r (omega arith)) ∙ c.front r)

-- the process whose row stands at a, in any layout
module _ (sh : Shape) (ws : List ℕ) (k a : ℕ) where
  abbrev row : List ℕ
  row = take (process_width sh k) (drop a ws)

  pub lead-place : sh.lead.get row ≡ sh.lead.get (drop a ws)
  lead-place = front-more sh.lead (process_width sh k) (drop a ws) (omega arith)

  -- w words of its row are w of the words
  inner : (w b : ℕ) → b + w ≤ process_width sh k → take w (drop b row) ≡ take w (drop (a + b) ws)
  inner w b h = part-part w b (process_width sh k) (drop a ws) h ∙ rw drop-drop

  pub hazard_place_lem : (i : ℕ) → i < k → get_or (process_by sh k row).hazards i empty_hazard ≡ hazard_from ws (a + hazard_place sh i)
  unfolding process_by
  hazard_place_lem i h =
      unrows-at hazard_at hazard_width empty_hazard k sh.lead_width i row h
      ∙ (ap (λ (r : List ℕ). hazard_at r) (inner hazard_width (sh.lead_width + i * hazard_width) (omega arith))
      ∙ hazard_from_lem ws (a + hazard_place sh i) (a + (sh.lead_width + i * hazard_width)) (omega arith))

  pub store_place_lem : (e : ℕ) → e < (sh.lead.get row).stores → (sh.lead.get row).stores ≤ buffer_size
      → get_or (process_by sh k row).buffer e (pending_at []) ≡ pending_from ws (a + store_place sh k e)
  unfolding process_by
  store_place_lem e h l =
      let at : ℕ = sh.lead_width + k * hazard_width in
      unrows-at pending_at store_width (pending_at []) (sh.lead.get row).stores at e row h
      ∙ (ap (λ (r : List ℕ). pending_at r) (inner store_width (at + e * store_width) (omega arith))
      ∙ pending_from_lem ws (a + store_place sh k e) (a + (at + e * store_width)) (omega arith))
