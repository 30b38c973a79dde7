-- Which words are well formed: the paper's 'Well formed means', clause by clause, in any layout. Assumes nothing.
use Rattle.std.specs.Prelude.{ℕ, ◌+◌, Bool, not, ◌&&◌, cond, List, length, drop, leb, ltb, eqb}
use Rattle.lists.specs.Tests.{implies}
use Rattle.lists.specs.Upto.{all_upto}
use Rattle.model.specs.Params.{Params, most_processes, most_hazards, most_nodes, most_ticks, most_calls, most_retired}
use Rattle.model.specs.Params.{most_lateness, buffer_size, last_clock}
use Rattle.model.specs.State.{Fallback}
use Rattle.layout.specs.Shape.{Shape, Head, Lead, word, hazard_place, store_place, process_start, nodes_start}
use Rattle.layout.specs.Shape.{word_count_by}
use Rattle.layout.specs.Encode.{shape}

abbrev pub between : ℕ → ℕ → ℕ → Bool
between low high n = leb low n && leb n high

-- N, K, M, T, Q, C, E, clock, path, global epoch
unfoldable pub head_fits : Head → Bool
head_fits h =
    between 1 most_processes h.params.processes
    && (between 1 most_hazards h.params.hazards
    && (between 1 most_nodes h.params.nodes
    && (between 1 most_ticks h.params.visibility_bound
    && (between 1 most_calls h.params.quiescence_threshold
    && (between 1 most_retired h.params.fallback_threshold
    && (leb h.params.lateness most_lateness
    && (leb h.clock last_clock
    && (leb h.path Fallback
    && leb h.epoch 2))))))))

-- local epoch, calls, presence, stores, present, with the quiescence threshold q
unfoldable pub lead_fits : ℕ → Lead → Bool
lead_fits q l =
    leb l.epoch 2
    && (ltb l.calls q && (leb l.presence 1 && (leb l.stores buffer_size && leb l.present 1)))

-- a hazard at place a: visible and assigned node at most M, a validation of 1 only where one is assigned
unfoldable pub hazard_fits : ℕ → List ℕ → ℕ → Bool
hazard_fits m ws a =
    leb (word ws a) m
    && (leb (word ws (a + 1)) m
    && (leb (word ws (a + 2)) 1
    && implies (eqb (word ws (a + 2)) 1) (not (eqb (word ws (a + 1)) 0))))

-- place e of a buffer with so many stores, at a: a store in its ranges, or all 0 past the length
unfoldable pub store_fits : ℕ → ℕ → ℕ → ℕ → List ℕ → ℕ → ℕ → Bool
store_fits stores k m clock ws a e =
    cond (ltb e stores)
    (ltb (word ws a) k && (leb (word ws (a + 1)) m && leb (word ws (a + 2)) clock))
    (eqb (word ws a) 0 && (eqb (word ws (a + 1)) 0 && eqb (word ws (a + 2)) 0))

module _ (sh : Shape) where
  -- a process at place a: its lead, its K hazards, its buffer's places
  unfoldable pub process_fits_by : Params → ℕ → List ℕ → ℕ → Bool
  process_fits_by p clock ws a =
      lead_fits p.quiescence_threshold (sh.lead.get (drop a ws))
      && (all_upto (λ h. hazard_fits p.nodes ws (a + hazard_place sh h)) p.hazards
      && all_upto
      (λ e. store_fits (sh.lead.get (drop a ws)).stores p.hazards p.nodes clock ws (a + store_place sh p.hazards e) e) buffer_size)

  abbrev pub processes_fit_by : Params → ℕ → List ℕ → Bool
  processes_fit_by p clock ws = all_upto (λ i. process_fits_by p clock ws (process_start sh p.hazards i)) p.processes

  abbrev pub nodes_fit_by : Params → ℕ → List ℕ → Bool
  nodes_fit_by p clock ws = sh.nodes.fits p.processes clock p.nodes (drop (nodes_start sh p.processes p.hazards) ws)

  -- length right, every word in its range
  unfoldable pub well_formed_by : List ℕ → Bool
  well_formed_by ws =
      let h = sh.head.get ws in
      head_fits h
      && (eqb (length ws) (word_count_by sh h.params)
      && (processes_fit_by h.params h.clock ws && nodes_fit_by h.params h.clock ws))

-- ---- the paper's layout

abbrev pub processes_fit : List ℕ → Bool
processes_fit ws = processes_fit_by shape (shape.head.get ws).params (shape.head.get ws).clock ws

abbrev pub well_formed : List ℕ → Bool
well_formed ws = well_formed_by shape ws
