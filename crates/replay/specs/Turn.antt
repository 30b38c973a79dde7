-- One step of a replay, all of them, and the whole. Assumes nothing.
use Rattle.std.specs.Prelude.{ℕ, ◌+◌, ◌*◌, ◌-◌, ◌≤◌, List, ◌++◌, ◌≡◌, length, take}
use Rattle.model.specs.Params.{word_count}
use Rattle.model.specs.State.{Domain, Step}
use Rattle.model.specs.Machine.{step, run, fresh}
use Rattle.model.specs.Claims.{raises, lowers, accepted_as, reachable_count}
use Rattle.layout.specs.Encode.{encode, decode}
use Rattle.layout.specs.Sound.{Sound}
use Rattle.trace.specs.Trace.{given, Front, front_of, Trace}
use Rattle.replay.specs.Most.{most_step_line, book_room}
use Rattle.replay.specs.Lines.{step_line, step_lines, book_text}
use Rattle.replay.specs.declared.Turn.{Turn}

-- the reachable count after a step, from the count before it
abbrev pub count_after : ℕ → ℕ → ℕ → ℕ
count_after n kind refusal = n + accepted_as raises kind refusal - accepted_as lowers kind refusal

-- n is the reachable count of the sound words ws
abbrev pub Counted : List ℕ → ℕ → Type 0
Counted ws n = Sound ws × (n ≡ reachable_count (decode ws))

-- step s is taken on the words ws, and its line, the i-th, follows what stands before at
pub record Taken (s : Step) (i at : ℕ) (ws out ws' out' : List ℕ) (r : Turn) : Type 0 where
  pub counted : Counted ws' r.reachable
  pub domain : decode ws' ≡ (step (decode ws) s).after
  pub text : take r.at out' ≡ take at out ++ step_line i (decode ws) s
  pub room : r.at ≤ at + most_step_line

-- all steps are taken, and their lines follow what stands before at
pub record Ran (ss : List Step) (at : ℕ) (ws out ws' out' : List ℕ) (r : Turn) : Type 0 where
  pub counted : Counted ws' r.reachable
  pub domain : decode ws' ≡ run (decode ws) ss
  pub text : take r.at out' ≡ take at out ++ step_lines 0 (decode ws) ss
  pub room : r.at ≤ at + most_step_line * length ss

-- the bytes open as a trace with this front, the words are as many as its domain takes, and its print fits the buffer
abbrev pub Ready : List ℕ → Front → List ℕ → List ℕ → Type 0
Ready bs f ws out = (front_of bs ≡ given f) × (length ws ≡ word_count f.params) × (book_room f.count ≤ length out)

-- the domain that a trace ends in: its steps taken on a fresh domain of its parameters
abbrev pub end_of : Trace → Domain
end_of t = run (fresh t.params) t.steps

-- the trace is replayed: the words are those that the rules come to, and the first n bytes of the buffer are its print
pub record Replayed (t : Trace) (ws' out' : List ℕ) (n : ℕ) : Type 0 where
  pub words : ws' ≡ encode (end_of t)
  pub text : take n out' ≡ book_text t
  pub room : n ≤ book_room (length t.steps)
