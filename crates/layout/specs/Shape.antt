-- What stands in a domain's words beside its lists: the head and the lead of a process; the shape of a layout; and where things stand
-- in it. Assumes nothing.
use Rattle.std.specs.Prelude.{ℕ, ◌+◌, ◌*◌, Bool, true, List, ◌≡◌, length, get_or}
use Rattle.lists.specs.Tests.{All}
use Rattle.lists.specs.Rows.{Codec}
use Rattle.model.specs.Params.{Params, hazard_width, store_width, buffer_width}
use Rattle.model.specs.State.{Process, Node, Domain}

abbrev pub word : List ℕ → ℕ → ℕ
word ws i = get_or ws i 0

-- the words of a step in a list of steps, and of an answer in a list of answers
abbrev pub step_width : ℕ
step_width = 5

abbrev pub answer_width : ℕ
answer_width = 2

-- ---- the words of a domain before its processes, and those of a process before its hazards

pub record Head : Type 0 where
  pub params : Params
  pub clock : ℕ
  pub path : ℕ
  pub epoch : ℕ

pub record Lead : Type 0 where
  pub epoch : ℕ
  pub calls : ℕ
  pub presence : ℕ
  -- how many stores are pending (mail length)
  pub stores : ℕ
  pub present : ℕ

abbrev pub head_of : Domain → Head
head_of d = record { params = d.params; clock = d.clock; path = d.path; epoch = d.epoch }

abbrev pub lead_of : Process → Lead
lead_of x = record { epoch = x.epoch; calls = x.calls; presence = x.presence; stores = length x.buffer; present = x.present }

-- ---- the nodes' part, from where the nodes start to the end: a codec of the whole list of nodes

pub record NodesCodec : Type 0 where
  -- the words of m nodes
  pub width : ℕ → ℕ
  pub put : List Node → List ℕ
  -- m nodes
  pub get : ℕ → List ℕ → List Node
  -- which words of m nodes are in their ranges, with n processes and at a clock
  pub fits : ℕ → ℕ → ℕ → List ℕ → Bool
  pub holds : Node → Bool
  pub long : (ns : List Node) → length (put ns) ≡ width (length ns)
  pub count : (m : ℕ) (r : List ℕ) → length (get m r) ≡ m
  -- only what it holds is read back as it was, and only words that fit are written back as they were
  pub back : (ns : List Node) → All (λ n. holds n ≡ true) ns → get (length ns) (put ns) ≡ ns
  pub forth : (n clock m : ℕ) (r : List ℕ) → length r ≡ width m → fits n clock m r ≡ true → put (get m r) ≡ r

-- ---- a layout: how a head, the lead of a process and the nodes stand in words. A hazard and a pending store are the same in all

pub record Shape : Type 0 where
  pub head_width : ℕ
  pub lead_width : ℕ
  pub head : Codec Head head_width
  pub lead : Codec Lead lead_width
  pub nodes : NodesCodec

-- in the words of a process: where hazard h starts; where the stores start, after k hazards; where store e does
abbrev pub hazard_place : Shape → ℕ → ℕ
hazard_place sh h = sh.lead_width + hazard_width * h

abbrev pub stores_place : Shape → ℕ → ℕ
stores_place sh k = hazard_place sh k

abbrev pub store_place : Shape → ℕ → ℕ → ℕ
store_place sh k e = stores_place sh k + store_width * e

-- the words of a process with k hazards
abbrev pub process_width : Shape → ℕ → ℕ
process_width sh k = sh.lead_width + buffer_width + hazard_width * k

-- where process p starts, and where the nodes do, with k hazards a process; the words of a domain
abbrev pub process_start : Shape → ℕ → ℕ → ℕ
process_start sh k p = sh.head_width + p * process_width sh k

abbrev pub nodes_start : Shape → ℕ → ℕ → ℕ
nodes_start sh n k = process_start sh k n

abbrev pub word_count_by : Shape → Params → ℕ
word_count_by sh a = nodes_start sh a.processes a.hazards + sh.nodes.width a.nodes
