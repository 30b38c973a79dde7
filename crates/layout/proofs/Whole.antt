-- Words in the right shape, in any layout, are the words of the domain that they decode to. Assumes nothing.
use Prim.Native.Nat.{ℕ, ◌+◌, ◌*◌, ◌-◌, ◌<◌, ◌≤◌}
use mathlib.Core.List.{List, []}
use mathlib.Core.Path.{◌≡◌, sym, ◌∙◌}
use native.Mathlib.Omega.{arith}
use lib.ListN.{length, take, drop, get_or, replicate, length-drop, length-replicate, get_or-replicate, take-append-drop}
use lib.Seq.{drop-drop, ext_get_or, get_or-drop}
use Rattle.lists.specs.Rows.{rows, unrows}
use Rattle.lists.proofs.Rows.{length-unrows, rows-unrows, codec-put, codec-rows}
use Rattle.model.specs.Params.{Params, buffer_size, hazard_width, store_width, buffer_width}
use Rattle.model.specs.State.{no_process}
use Rattle.layout.specs.Shape.{Shape, word, process_width, process_start, nodes_start, word_count_by}
use Rattle.layout.specs.Codecs.{hazard_codec, pending_codec}
use Rattle.layout.specs.Encode.{process_words_by, encode_by, process_by, decode_by}

-- a process's row: as long as it should be, and 0 past its pending stores
pub record RowFits (sh : Shape) (k : ℕ) (r : List ℕ) : Type 0 where
  pub long : length r ≡ process_width sh k
  pub room : (sh.lead.get r).stores ≤ buffer_size
  pub rest : (j : ℕ) → (sh.lead.get r).stores * store_width ≤ j → j < buffer_width → word r (sh.lead_width + k * hazard_width + j) ≡ 0

-- a domain's words: as many as they should be, each process's row, and the nodes' part
pub record RowsFit (sh : Shape) (a : Params) (ws : List ℕ) : Type 0 where
  pub long : length ws ≡ word_count_by sh a
  pub rows : (p : ℕ) → p < a.processes
      → RowFits sh a.hazards (take (process_width sh a.hazards) (drop (process_start sh a.hazards p) ws))
  pub nodes : sh.nodes.put (sh.nodes.get a.nodes (drop (nodes_start sh a.processes a.hazards) ws))
      ≡ drop (nodes_start sh a.processes a.hazards) ws

module _ (sh : Shape) where
  -- ---- a process's row

  module _ (k : ℕ) (r : List ℕ) (f : RowFits sh k r) where
    abbrev stores : ℕ
    stores = (sh.lead.get r).stores

    abbrev tail : List ℕ
    tail = drop (sh.lead_width + k * hazard_width) r

    tail-length : length tail ≡ buffer_width
    tail-length = simp length-drop (omega (arith, f.long))

    zero-at : (i : ℕ) → i < buffer_width - stores * store_width → 0 ≡ get_or (drop (stores * store_width) tail) i 0
    zero-at i q =
        sym
        (get_or-drop (stores * store_width) tail i 0
        ∙ (get_or-drop (sh.lead_width + k * hazard_width) r (stores * store_width + i) 0 ∙ f.rest (stores * store_width + i) (omega arith) (omega arith)))

    zeros : replicate (buffer_width - stores * store_width) 0 ≡ drop (stores * store_width) tail
    zeros =
        let e : length {A = ℕ} (replicate (buffer_width - stores * store_width) 0) ≡ buffer_width - stores * store_width = length-replicate (buffer_width - stores * store_width) 0 in
        ext_get_or 0 _ _ (e ∙ simp length-drop (omega (arith, tail-length)))
        (λ i q. let l : i < buffer_width - stores * store_width = omega (arith, e) in get_or-replicate (buffer_width - stores * store_width) i 0 0 l ∙ zero-at i l)

    pub process-forth : process_words_by sh (process_by sh k r) ≡ r
    unfolding process_words_by process_by
    process-forth =
        let L : ℕ = sh.lead_width in
        let hs : k * hazard_width ≤ length (drop L r) = simp length-drop (omega (arith, f.long)) in
        let b : stores * store_width ≤ length tail = omega (arith, f.room, tail-length) in
        rw (length-unrows pending_codec.get store_width (pending_codec.get []) stores tail, codec-put sh.lead r (omega (arith, f.long)))
        (rw (codec-rows hazard_codec k (drop L r) hs, codec-rows pending_codec stores tail b, zeros, take-append-drop (stores * store_width) tail)
        (rw (← drop-drop (k * hazard_width) L r, take-append-drop (k * hazard_width) (drop L r)) (take-append-drop L r)))

  -- ---- the whole

  module _ (ws : List ℕ) (f : RowsFit sh (sh.head.get ws).params ws) where
    abbrev a : Params
    a = (sh.head.get ws).params

    abbrev width : ℕ
    width = process_width sh a.hazards

    processes-forth : rows (process_words_by sh) (unrows (process_by sh a.hazards) width a.processes (drop sh.head_width ws))
        ≡ take (a.processes * width) (drop sh.head_width ws)
    processes-forth =
        rows-unrows (process_by sh a.hazards) width no_process (process_words_by sh) a.processes (drop sh.head_width ws)
        (λ p h. rw drop-drop (process-forth a.hazards _ (f.rows p h)))

    pub encode-decode : encode_by sh (decode_by sh ws) ≡ ws
    unfolding encode_by decode_by
    encode-decode =
        rw (codec-put sh.head ws (omega (arith, f.long)), processes-forth, f.nodes)
        (rw (← drop-drop (a.processes * width) sh.head_width ws, take-append-drop (a.processes * width) (drop sh.head_width ws))
        (take-append-drop sh.head_width ws))
