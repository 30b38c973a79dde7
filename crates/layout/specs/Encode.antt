-- A domain as words, and the domain that words hold. Assumes nothing.
use Rattle.std.specs.Prelude.{ℕ, ◌+◌, ◌*◌, ◌-◌, List, ◌++◌, length, drop, replicate}
use Rattle.lists.specs.Rows.{rows, unrows}
use Rattle.model.specs.Params as P
use Rattle.model.specs.Params.{Params, hazard_width, store_width, buffer_width}
use Rattle.model.specs.State.{Pending, Process, Domain}
use Rattle.layout.specs.Shape.{Shape, head_of, lead_of, process_width, nodes_start}
use Rattle.layout.specs.Codecs.{head_codec, lead_codec, hazard_codec, pending_codec}
use Rattle.layout.specs.Nodes.{nodes_codec}

-- the buffer's places, 0 past its length
abbrev pub buffer_words : List Pending → List ℕ
buffer_words b = rows pending_codec.put b ++ replicate (buffer_width - length b * store_width) 0

module _ (sh : Shape) where
  unfoldable pub process_words_by : Process → List ℕ
  process_words_by x = sh.lead.put (lead_of x) ++ (rows hazard_codec.put x.hazards ++ buffer_words x.buffer)

  unfoldable pub encode_by : Domain → List ℕ
  encode_by d = sh.head.put (head_of d) ++ (rows process_words_by d.processes ++ sh.nodes.put d.nodes)

  -- k: hazards
  unfoldable pub process_by : ℕ → List ℕ → Process
  process_by k r =
      let l = sh.lead.get r in
      record {
        epoch = l.epoch;
        calls = l.calls;
        presence = l.presence;
        present = l.present;
        buffer = unrows pending_codec.get store_width l.stores (drop (sh.lead_width + k * hazard_width) r);
        hazards = unrows hazard_codec.get hazard_width k (drop sh.lead_width r);
      }

  unfoldable pub decode_by : List ℕ → Domain
  decode_by ws =
      let h = sh.head.get ws in
      let a = h.params in
      record {
        params = a;
        clock = h.clock;
        path = h.path;
        epoch = h.epoch;
        processes = unrows (process_by a.hazards) (process_width sh a.hazards) a.processes (drop sh.head_width ws);
        nodes = sh.nodes.get a.nodes (drop (nodes_start sh a.processes a.hazards) ws);
      }

-- ---- the paper's layout

abbrev pub shape : Shape
shape = record { head_width = P.head_width; lead_width = P.lead_width; head = head_codec; lead = lead_codec; nodes = nodes_codec }

abbrev pub process_words : Process → List ℕ
process_words x = process_words_by shape x

abbrev pub process_at : ℕ → List ℕ → Process
process_at k r = process_by shape k r

abbrev pub encode : Domain → List ℕ
encode d = encode_by shape d

abbrev pub decode : List ℕ → Domain
decode ws = decode_by shape ws

-- the parameters that words begin with
abbrev pub params_in : List ℕ → Params
params_in ws = (shape.head.get ws).params

-- the words from where the nodes start to the end
abbrev pub nodes_part : List ℕ → List ℕ
nodes_part ws = drop (nodes_start shape (params_in ws).processes (params_in ws).hazards) ws
