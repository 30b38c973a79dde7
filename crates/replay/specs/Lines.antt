-- The print of a book by the rules: the lines of 'The step book and its print'. Assumes nothing.
use Rattle.std.specs.Prelude.{ℕ, ◌+◌, List, [], ◌∷◌, ◌++◌}
use Rattle.model.specs.State.{Domain, Step}
use Rattle.model.specs.Machine.{step, run, fresh}
use Rattle.model.specs.Claims.{reachable_count}
use Rattle.trace.specs.Trace.{Trace}
use Rattle.text.specs.Text.{params_text, step_text, end_text}

-- step i, taken on the domain d: its number, its kind, its refusal and value, and the reachable count (the paper's panel) after it
abbrev pub step_line : ℕ → Domain → Step → List ℕ
step_line i d s = step_text i s.kind (step d s).refusal (step d s).value (reachable_count (step d s).after)

-- a line a step, the first of them step i
unfoldable pub step_lines : ℕ → Domain → List Step → List ℕ
step_lines i d [] = []
step_lines i d (s ∷ ss) = step_line i d s ++ step_lines (i + 1) (step d s).after ss

-- the last line: clock, path, reachable count
abbrev pub last_line : Domain → List ℕ
last_line d = end_text d.clock d.path (reachable_count d)

-- the parameters, the steps from 0 on, taken on a fresh domain, and what it has come to
unfoldable pub book_text : Trace → List ℕ
book_text t =
    params_text t.params
    ++ step_lines 0 (fresh t.params) t.steps
    ++ last_line (run (fresh t.params) t.steps)
