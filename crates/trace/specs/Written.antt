-- A trace as bytes, as a recorder writes it. Assumes nothing.
use Rattle.std.specs.Prelude.{ℕ, ◌+◌, ◌*◌, ◌/◌, ◌%◌, ◌<◌, List, [], ◌∷◌, ◌++◌, length}
use Rattle.model.specs.Params.{Params}
use Rattle.model.specs.State.{Step}
use Rattle.trace.specs.Widths.{step_size, least_size}
use Rattle.trace.specs.Trace.{Trace}

-- a number in 4 bytes, the lowest first
unfoldable pub word_bytes : ℕ → List ℕ
word_bytes n = n % 256 ∷ n / 256 % 256 ∷ n / 256 / 256 % 256 ∷ n / 256 / 256 / 256 % 256 ∷ []

unfoldable pub params_bytes : Params → List ℕ
params_bytes a =
    word_bytes a.processes
    ++ (word_bytes a.hazards
    ++ (word_bytes a.nodes
    ++ (word_bytes a.visibility_bound
    ++ (word_bytes a.quiescence_threshold
    ++ (word_bytes a.fallback_threshold
    ++ word_bytes a.lateness)))))

unfoldable pub step_bytes : Step → List ℕ
step_bytes s = s.kind ∷ s.process ∷ s.hazard ∷ 0 ∷ (word_bytes s.node ++ word_bytes s.guest)

unfoldable pub steps_bytes : List Step → List ℕ
steps_bytes [] = []
steps_bytes (s ∷ ss) = step_bytes s ++ steps_bytes ss

-- the count of the steps, the distance back to the parameters, QBAK
unfoldable pub trailer_bytes : ℕ → List ℕ
trailer_bytes n = word_bytes n ++ (word_bytes (least_size + step_size * n) ++ (81 ∷ 66 ∷ 65 ∷ 75 ∷ []))

unfoldable pub trace_bytes : Trace → List ℕ
trace_bytes t = params_bytes t.params ++ (steps_bytes t.steps ++ trailer_bytes (length t.steps))

-- a step that 12 bytes hold
abbrev pub StepFits : Step → Type 0
StepFits s = (s.kind < 256) × (s.process < 256) × (s.hazard < 256) × (s.node < 4294967296) × (s.guest < 4294967296)
