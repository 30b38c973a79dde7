-- Numbers in a list of bytes, the lowest byte first, and the two records that a trace (the paper's step book) is made of: parameters and
-- steps. Assumes nothing.
use Rattle.std.specs.Prelude.{ℕ, zero, suc, ◌+◌, ◌*◌, Bool, ◌&&◌, cond, List, [], ◌∷◌, length, get_or, leb, eqb}
use Rattle.model.specs.Params.{Params}
use Rattle.model.specs.State.{Step}
use Rattle.trace.specs.Widths.{hazards_byte, nodes_byte, visibility_byte, quiescence_byte, fallback_byte}
use Rattle.trace.specs.Widths.{lateness_byte}
use Rattle.trace.specs.Widths.{process_byte, hazard_byte, node_byte, guest_byte, step_size}

abbrev pub byte_at : List ℕ → ℕ → ℕ
byte_at bs i = get_or bs i 0

-- the number of the four bytes from i on, little-endian
unfoldable pub word_at : List ℕ → ℕ → ℕ
word_at bs i = byte_at bs i + 256 * byte_at bs (i + 1) + 65536 * byte_at bs (i + 2) + 16777216 * byte_at bs (i + 3)

-- the bytes QBAK from i on
unfoldable pub mark_at : List ℕ → ℕ → Bool
mark_at bs i =
    eqb (byte_at bs i) 81
    && (eqb (byte_at bs (i + 1)) 66
    && (eqb (byte_at bs (i + 2)) 65
    && eqb (byte_at bs (i + 3)) 75))

-- seven parameters of 4 bytes from i on: N, K, M, T, Q, C, E
unfoldable pub params_at : List ℕ → ℕ → Params
params_at bs i =
    record {
      processes = word_at bs i;
      hazards = word_at bs (i + hazards_byte);
      nodes = word_at bs (i + nodes_byte);
      visibility_bound = word_at bs (i + visibility_byte);
      quiescence_threshold = word_at bs (i + quiescence_byte);
      fallback_threshold = word_at bs (i + fallback_byte);
      lateness = word_at bs (i + lateness_byte);
    }

-- the step in the 12 bytes from i on: kind, process (worker) and hazard (slot) a byte each, a byte that is not read, node (card) and guest
-- in 4 bytes each
unfoldable pub step_in : List ℕ → ℕ → Step
step_in bs i =
    record {
      kind = byte_at bs i;
      process = byte_at bs (i + process_byte);
      hazard = byte_at bs (i + hazard_byte);
      node = word_at bs (i + node_byte);
      guest = word_at bs (i + guest_byte);
    }

abbrev pub no_step : Step
no_step = record { kind = 0; process = 0; hazard = 0; node = 0; guest = 0 }

-- the step at any offset: zeros where the bytes end before it does
unfoldable pub step_at : List ℕ → ℕ → Step
step_at bs i = cond (leb (i + step_size) (length bs)) (step_in bs i) no_step

-- so many steps, one after another, the first at i
unfoldable pub steps_from : List ℕ → ℕ → ℕ → List Step
steps_from bs i zero = []
steps_from bs i (suc n) = step_at bs i ∷ steps_from bs (i + step_size) n
