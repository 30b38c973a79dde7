-- A domain's words in any layout: how many they are, what they decode to, and the head, a process and the nodes in them, read and
-- written. Assumes nothing.
use Prim.Native.Nat.{ℕ, ◌+◌, ◌*◌, ◌-◌, ◌<◌, ◌≤◌}
use mathlib.Core.Bool.{true}
use mathlib.Core.List.{List, [], ◌++◌, append_assoc, append-nil}
use mathlib.Core.Path.{◌≡◌, refl, sym, ◌∙◌, ap}
use native.Mathlib.Omega.{arith}
use lib.ListN.{length, take, drop, replicate, length-append, length-drop, length-replicate, drop_of_length-le}
use lib.Seq.{drop-drop, drop_at, take-append-add, drop-append-add, take-append_seam, drop-append_seam}
use lib.Seq.{get_or-drop, get_or-append-add}
use borrow.Rule.Slice.PartMut.{put_mid}
use Rattle.lists.specs.Rows.{rows, unrows}
use Rattle.lists.proofs.Facts.{all-at, all_map}
use Rattle.lists.proofs.Stores.{replicate-at}
use Rattle.lists.proofs.Rows.{Wide, length-rows, rows_row, rows-splice, unrows-rows, mid-part, mid-splice, below}
use Rattle.lists.proofs.Rows.{codec-get, codec-length, codec-unrows}
use Rattle.model.specs.Params.{Params, buffer_size, hazard_width, store_width, buffer_width}
use Rattle.model.specs.State.{Process, Node, Domain, no_process, process_of, with_nodes, set_process}
use Rattle.model.specs.WellFormed.{NodeFits, ProcessFits, WellFormed}
use Rattle.layout.specs.Shape.{Shape, Head, word, head_of, lead_of, process_width, process_start, nodes_start}
use Rattle.layout.specs.Shape.{word_count_by}
use Rattle.layout.specs.Codecs.{hazard_codec, pending_codec}
use Rattle.layout.specs.Encode.{buffer_words, process_words_by, encode_by, process_by, decode_by}

-- a domain whose lists are as long as its parameters say
pub record Laid (d : Domain) : Type 0 where
  pub processes : length d.processes ≡ d.params.processes
  pub hazards : (p : ℕ) → p < d.params.processes → length (process_of d p).hazards ≡ d.params.hazards
  pub buffers : (p : ℕ) → p < d.params.processes → length (process_of d p).buffer ≤ buffer_size
  pub nodes : length d.nodes ≡ d.params.nodes

process_of_lem : {d : Domain} → WellFormed d → (p : ℕ) → p < d.params.processes → ProcessFits d.params d.clock (process_of d p)
process_of_lem {d} f p l =
    all-at (ProcessFits d.params d.clock) d.processes p no_process f.processes (omega (arith, f.process_count))

pub laid : {d : Domain} → WellFormed d → Laid d
laid {d} f =
    record {
      processes = f.process_count;
      hazards = λ p l. (process_of_lem f p l).stores.width;
      buffers = λ p l. (process_of_lem f p l).stores.room;
      nodes = f.node_count;
    }

-- a layout that holds every well-formed domain
pub record Roomy (sh : Shape) : Type 0 where
  pub head : (h : Head) → sh.head.holds h ≡ true
  pub lead : (a : Params) (clock : ℕ) (x : Process) → ProcessFits a clock x → sh.lead.holds (lead_of x) ≡ true
  pub node : (a : Params) (clock : ℕ) (n : Node) → NodeFits a clock n → sh.nodes.holds n ≡ true

-- the three parts of a domain's words, and the width of its processes
abbrev head_row : Shape → Domain → List ℕ
head_row sh d = sh.head.put (head_of d)

abbrev process_rows : Shape → Domain → List ℕ
process_rows sh d = rows (process_words_by sh) d.processes

abbrev node_rows : Shape → Domain → List ℕ
node_rows sh d = sh.nodes.put d.nodes

abbrev row_width : Shape → Domain → ℕ
row_width sh d = process_width sh d.params.hazards

module _ (sh : Shape) where
  -- ---- a process by itself

  module _ (x : Process) (k : ℕ) (hk : length x.hazards ≡ k) (hb : length x.buffer ≤ buffer_size) where
    pub process_width_lem : length (process_words_by sh x) ≡ process_width sh k
    unfolding process_words_by
    process_width_lem =
        simp (length-append, length-replicate)
        (omega (arith, codec-length hazard_codec x.hazards, codec-length pending_codec x.buffer, sh.lead.width (lead_of x)))

    hazards-start : drop sh.lead_width (process_words_by sh x) ≡ rows hazard_codec.put x.hazards ++ buffer_words x.buffer
    unfolding process_words_by
    hazards-start = drop_at (sh.lead.put (lead_of x)) _ sh.lead_width (sh.lead.width (lead_of x))

    buffer-start : drop (sh.lead_width + k * hazard_width) (process_words_by sh x) ≡ buffer_words x.buffer
    buffer-start =
        let hs : List ℕ = rows hazard_codec.put x.hazards in
        sym (drop-drop (k * hazard_width) sh.lead_width (process_words_by sh x))
        ∙ (ap (λ (r : List ℕ). drop (k * hazard_width) r) hazards-start
        ∙ drop_at hs (buffer_words x.buffer) (k * hazard_width) (rw (← hk) (codec-length hazard_codec x.hazards)))

    -- the words past the pending stores
    pub past-stores : (j : ℕ) → length x.buffer * store_width ≤ j → word (process_words_by sh x) (sh.lead_width + k * hazard_width + j) ≡ 0
    past-stores j h =
        let n : ℕ = length x.buffer * store_width in
        let e : j ≡ length (rows pending_codec.put x.buffer) + (j - n) = omega (arith, codec-length pending_codec x.buffer) in
        sym (get_or-drop (sh.lead_width + k * hazard_width) (process_words_by sh x) j 0)
        ∙ (ap (λ (r : List ℕ). word r j) buffer-start
        ∙ rw (e, get_or-append-add) (replicate-at (λ v. v ≡ 0) (buffer_width - n) 0 0 (j - n) refl refl))

    pub process-back : sh.lead.holds (lead_of x) ≡ true → process_by sh k (process_words_by sh x) ≡ x
    unfolding process_by process_words_by
    process-back h =
        let hs : unrows hazard_codec.get hazard_width k (drop sh.lead_width (process_words_by sh x)) ≡ x.hazards =
        rw (hazards-start, ← hk) (codec-unrows hazard_codec x.hazards (buffer_words x.buffer) (λ _. refl)) in
        let b : unrows pending_codec.get store_width (length x.buffer) (drop (sh.lead_width + k * hazard_width) (process_words_by sh x)) ≡ x.buffer =
        rw buffer-start (codec-unrows pending_codec x.buffer (replicate (buffer_width - length x.buffer * store_width) 0) (λ _. refl)) in
        rw (codec-get sh.lead (lead_of x) _ h)
        (λ t. record { epoch = x.epoch; calls = x.calls; presence = x.presence; present = x.present; buffer = b t; hazards = hs t })

  -- ---- the head

  module _ (d : Domain) where
    after-head : drop sh.head_width (encode_by sh d) ≡ process_rows sh d ++ node_rows sh d
    unfolding encode_by
    after-head = drop_at (head_row sh d) _ sh.head_width (sh.head.width (head_of d))

  -- ---- the whole

  module _ {d : Domain} (l : Laid d) where
    wide : Wide (process_words_by sh) (row_width sh d) no_process d.processes
    wide p h =
        let q : p < d.params.processes = omega (arith, l.processes) in
        process_width_lem (process_of d p) d.params.hazards (l.hazards p q) (l.buffers p q)

    processes-length : length (process_rows sh d) ≡ d.params.processes * row_width sh d
    processes-length =
        length-rows (process_words_by sh) (row_width sh d) no_process d.processes wide ∙ ap (λ (n : ℕ). n * row_width sh d) l.processes

    nodes-length : length (node_rows sh d) ≡ sh.nodes.width d.params.nodes
    nodes-length = sh.nodes.long d.nodes ∙ ap (λ (n : ℕ). sh.nodes.width n) l.nodes

    pub encode-length : length (encode_by sh d) ≡ word_count_by sh d.params
    unfolding encode_by
    encode-length = simp length-append (omega (arith, processes-length, nodes-length, sh.head.width (head_of d)))

    -- ---- its nodes, from a on

    module _ (a : ℕ) (e : a ≡ nodes_start sh d.params.processes d.params.hazards) where
      nodes_start_lem : a ≡ length (head_row sh d) + length (process_rows sh d)
      nodes_start_lem = omega (arith, processes-length, sh.head.width (head_of d))

      pub nodes_part_lem : drop a (encode_by sh d) ≡ sh.nodes.put d.nodes
      unfolding encode_by
      nodes_part_lem = rw (nodes_start_lem, drop-append-add) (drop-append_seam (process_rows sh d) (node_rows sh d))

      pub nodes-put : (ns : List Node) → take a (encode_by sh d) ++ sh.nodes.put ns ≡ encode_by sh (with_nodes d ns)
      unfolding encode_by
      nodes-put ns =
          rw (nodes_start_lem, take-append-add, take-append_seam (process_rows sh d) (node_rows sh d))
          (append_assoc (head_row sh d) (process_rows sh d) (sh.nodes.put ns))

      -- as a caller has it that lends the words from a on
      pub nodes-lent : (w : ℕ) (ns : List Node) → w ≡ length (encode_by sh d) - a
          → put_mid a w (encode_by sh d) (sh.nodes.put ns) ≡ encode_by sh (with_nodes d ns)
      nodes-lent w ns q =
          let z : drop w (drop a (encode_by sh d)) ≡ [] =
          drop_of_length-le (drop a (encode_by sh d)) {i = w} (simp length-drop (omega arith)) in
          rw (z, append-nil) (nodes-put ns)

    -- ---- process p of it, w words from a on

    module _ (p a w : ℕ) (h : p < d.params.processes)
        (ea : a ≡ process_start sh d.params.hazards p) (ew : w ≡ process_width sh d.params.hazards) where
      process_start_lem : a ≡ length (head_row sh d) + p * row_width sh d
      process_start_lem = omega (arith, sh.head.width (head_of d))

      inside : p < length d.processes
      inside = omega (arith, l.processes)

      room : p * row_width sh d + row_width sh d ≤ length (process_rows sh d)
      room = omega (arith, processes-length, below p d.params.processes (row_width sh d) h)

      pub process-part : take w (drop a (encode_by sh d)) ≡ process_words_by sh (process_of d p)
      unfolding encode_by
      process-part =
          rw ew
          (mid-part (head_row sh d) (process_rows sh d) (node_rows sh d) _ _ a process_start_lem room
          ∙ rows_row (process_words_by sh) (row_width sh d) no_process d.processes p wide inside)

      pub process-put : (x : Process) → put_mid a w (encode_by sh d) (process_words_by sh x) ≡ encode_by sh (set_process d p x)
      unfolding encode_by
      process-put x =
          rw (ew, drop-drop (row_width sh d) a)
          (mid-splice (head_row sh d) (process_rows sh d) (node_rows sh d) _ _ a process_start_lem room (process_words_by sh x)
          ∙ ap (λ (r : List ℕ). head_row sh d ++ (r ++ node_rows sh d))
          (rows-splice (process_words_by sh) (row_width sh d) no_process d.processes p x wide inside))

  -- ---- and back

  module _ (holds : Roomy sh) {d : Domain} (f : WellFormed d) where
    abbrev a : Params
    a = d.params

    processes-back : unrows (process_by sh a.hazards) (row_width sh d) a.processes (drop sh.head_width (encode_by sh d)) ≡ d.processes
    processes-back =
        let l = laid f in
        let back : (p : ℕ) → p < length d.processes → process_by sh a.hazards (process_words_by sh (process_of d p)) ≡ process_of d p =
        λ p h. let q : p < a.processes = omega (arith, l.processes) in
        process-back (process_of d p) a.hazards (l.hazards p q) (l.buffers p q) (holds.lead a d.clock _ (process_of_lem f p q)) in
        rw (after-head d, ← l.processes)
        (unrows-rows (process_by sh a.hazards) (row_width sh d) no_process (process_words_by sh) d.processes (node_rows sh d) (wide l) back)

    nodes-back : sh.nodes.get a.nodes (drop (nodes_start sh a.processes a.hazards) (encode_by sh d)) ≡ d.nodes
    nodes-back =
        rw (nodes_part_lem (laid f) (nodes_start sh a.processes a.hazards) refl, ← f.node_count)
        (sh.nodes.back d.nodes (all_map (NodeFits a d.clock) (λ n. sh.nodes.holds n ≡ true) d.nodes (holds.node a d.clock) f.nodes))

    pub decode-encode : decode_by sh (encode_by sh d) ≡ d
    unfolding decode_by encode_by
    decode-encode =
        rw (codec-get sh.head (head_of d) _ (holds.head (head_of d)))
        (λ t. record {
          params = a;
          clock = d.clock;
          path = d.path;
          epoch = d.epoch;
          processes = processes-back t;
          nodes = nodes-back t;
        })
