-- The parameters' ranges, and how many words a domain takes. Assumes nothing.
use Rattle.std.specs.Prelude.{ℕ, Bool, ◌&&◌, cond, leb}
use Rattle.model.specs.Params.{Params, most_processes, most_hazards, most_nodes, most_ticks, most_calls, most_retired}
use Rattle.model.specs.Params.{most_lateness, word_count}
use Rattle.layout.specs.Words.{between}

-- N, K and M, which a domain's length goes by
unfoldable pub sizes_in_range : ℕ → ℕ → ℕ → Bool
sizes_in_range n k m = between 1 most_processes n && (between 1 most_hazards k && between 1 most_nodes m)

unfoldable pub in_range : Params → Bool
in_range a =
    sizes_in_range a.processes a.hazards a.nodes
    && (between 1 most_ticks a.visibility_bound
    && (between 1 most_calls a.quiescence_threshold
    && (between 1 most_retired a.fallback_threshold
    && leb a.lateness most_lateness)))

-- parameters of these sizes: a domain's length goes by no others
abbrev pub sized : ℕ → ℕ → ℕ → Params
sized n k m =
    record { processes = n; hazards = k; nodes = m; visibility_bound = 1; quiescence_threshold = 1; fallback_threshold = 1; lateness = 0 }

-- the words of a domain with the most of each
abbrev pub most_words : ℕ
most_words = word_count (sized most_processes most_hazards most_nodes)

-- the words that a domain of n processes, k hazards a process and m nodes takes; 0 unless each is in its range
unfoldable pub length_for : ℕ → ℕ → ℕ → ℕ
length_for n k m = cond (sizes_in_range n k m) (word_count (sized n k m)) 0
