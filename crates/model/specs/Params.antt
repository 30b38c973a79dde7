-- The seven parameters of a domain, their ranges, and what follows from them alone. Assumes nothing.
use Rattle.std.specs.Prelude.{ℕ, ◌+◌, ◌*◌, ◌≤◌}

pub record Params : Type 0 where
  -- N, workers
  pub processes : ℕ
  -- K, slots a worker
  pub hazards : ℕ
  -- M, cards
  pub nodes : ℕ
  -- T, ticks: a flush is due so long after a store was made
  pub visibility_bound : ℕ
  -- Q, calls: only each Q-th manage acts
  pub quiescence_threshold : ℕ
  -- C, cards: a process with so many Retired nodes leaves the fast path
  pub fallback_threshold : ℕ
  -- E, ticks: a flush (the rooster's) may come so much later than it is due
  pub lateness : ℕ

-- N, K, M, T, Q, C and E, in this order
abbrev pub params_of : ℕ → ℕ → ℕ → ℕ → ℕ → ℕ → ℕ → Params
params_of n k m t q c e =
    record {
      processes = n;
      hazards = k;
      nodes = m;
      visibility_bound = t;
      quiescence_threshold = q;
      fallback_threshold = c;
      lateness = e;
    }

-- the most of each (documents 01 and 02); the least is 1, of E it is 0
abbrev pub most_processes : ℕ
most_processes = 16

abbrev pub most_hazards : ℕ
most_hazards = 8

abbrev pub most_nodes : ℕ
most_nodes = 256

abbrev pub most_ticks : ℕ
most_ticks = 1000

abbrev pub most_calls : ℕ
most_calls = 1000

abbrev pub most_retired : ℕ
most_retired = 256

abbrev pub most_lateness : ℕ
most_lateness = 1000

abbrev pub Between : ℕ → ℕ → ℕ → Type 0
Between low high n = (low ≤ n) × (n ≤ high)

pub record InRange (a : Params) : Type 0 where
  pub processes : Between 1 most_processes a.processes
  pub hazards : Between 1 most_hazards a.hazards
  pub nodes : Between 1 most_nodes a.nodes
  pub visibility_bound : Between 1 most_ticks a.visibility_bound
  pub quiescence_threshold : Between 1 most_calls a.quiescence_threshold
  pub fallback_threshold : Between 1 most_retired a.fallback_threshold
  pub lateness : a.lateness ≤ most_lateness

-- the most nodes that a portion of a scan may be told to examine
abbrev pub most_examined : ℕ
most_examined = 256

-- the most pending stores that a process's buffer holds (8 mail entries)
abbrev pub buffer_size : ℕ
buffer_size = 8

-- the largest number of a word, at which the clock stops
abbrev pub last_clock : ℕ
last_clock = 4294967295

-- T + E, the ticks within which every store has become visible: the one age that flushes, scans and the bound on unfreed nodes go by
abbrev pub delay : Params → ℕ
delay a = a.visibility_bound + a.lateness

-- ---- the words of a domain, by rows: the head; the lead of a process (its words before its hazards), a hazard, a pending store and the
-- places of all stores; a node

abbrev pub head_width : ℕ
head_width = 10

abbrev pub lead_width : ℕ
lead_width = 5

abbrev pub hazard_width : ℕ
hazard_width = 3

abbrev pub store_width : ℕ
store_width = 3

abbrev pub buffer_width : ℕ
buffer_width = buffer_size * store_width

abbrev pub node_width : ℕ
node_width = 5

abbrev pub word_count : Params → ℕ
word_count a = head_width + a.processes * (lead_width + buffer_width + hazard_width * a.hazards) + node_width * a.nodes
