-- A list of steps taken on lent words, each step and each answer a row of words. Assumes nothing.
use Rattle.std.specs.Prelude.{ℕ, ◌+◌, ◌*◌, ◌/◌, ◌≤◌, Bool, true, false, ◌&&◌, cond, List, [], ◌∷◌, ◌≡◌, length, eqb}
use Rattle.std.proofs.lemmas.List.Edits.{sets}
use Rattle.lists.specs.Rows.{unrows}
use Rattle.model.specs.State.{Step}
use Rattle.layout.specs.Shape.{word, step_width, answer_width}
use Rattle.layout.specs.Words.{well_formed}
use Rattle.domain.specs.Effects.{given}
use Rattle.qsense.specs.Calls.{step_words, run_words}

-- word j of step i of a list
abbrev pub step_word : List ℕ → ℕ → ℕ → ℕ
step_word steps i j = word steps (step_width * i + j)

-- step i of a list: kind, process, hazard, node, guest
abbrev pub step_in : List ℕ → ℕ → Step
step_in steps i = given (step_word steps i 0) (step_word steps i 1) (step_word steps i 2) (step_word steps i 3) (step_word steps i 4)

-- the first n steps of a list of words
abbrev pub steps_in : ℕ → List ℕ → List Step
steps_in n steps = unrows (λ r. step_in r 0) step_width n steps

-- what the steps answer, called one by one, each on the words as the last one left them
abbrev pub answers_of : List ℕ → List Step → List ℕ
answers_of ws [] = []
answers_of ws (s ∷ ss) = (step_words ws s).refusal ∷ (step_words ws s).value ∷ answers_of (step_words ws s).words ss

-- whether the run was taken, and the words and the answers after the call
pub record Ran : Type 0 where
  pub taken : Bool
  pub words : List ℕ
  pub answers : List ℕ

-- how many steps there are in so many words
abbrev pub step_count : ℕ → ℕ
step_count n = n / step_width

-- so many words of steps, and of answers, are those of a whole number of steps
abbrev pub fits : ℕ → ℕ → Bool
fits steps answers = eqb steps (step_width * step_count steps) && eqb answers (answer_width * step_count steps)

unfoldable pub run_into : List ℕ → List ℕ → List ℕ → Ran
run_into ws steps answers =
    cond (fits (length steps) (length answers))
    (record {
      taken = true;
      words = run_words ws (steps_in (step_count (length steps)) steps);
      answers = answers_of ws (steps_in (step_count (length steps)) steps);
    })
    (record { taken = false; words = ws; answers = answers })

-- the same, of the code's answer and the lists after the call
abbrev pub ran_of : Bool → List ℕ → List ℕ → Ran
ran_of taken ws answers = record { taken = taken; words = ws; answers = answers }

-- ---- one turn

-- a list has words for a step i
abbrev pub HoldsStep : ℕ → List ℕ → Type 0
HoldsStep i steps = step_width * i + step_width ≤ length steps

-- both lists have words for a step i and its answer
abbrev pub HoldsTurn : ℕ → List ℕ → List ℕ → Type 0
HoldsTurn i steps answers = HoldsStep i steps × (answer_width * i + answer_width ≤ length answers)

-- step s is taken on words ws, its answer is the i-th, and the words are as good as they were
pub record Taken (b : Bool) (s : Step) (i : ℕ) (ws rs ws' rs' : List ℕ) : Type 0 where
  pub words : ws' ≡ (step_words ws s).words
  pub answers : rs' ≡ sets rs (answer_width * i) ((step_words ws s).refusal ∷ (step_words ws s).value ∷ [])
  pub good : b ≡ well_formed ws'

-- ---- all turns

-- the lists are those of n steps and their answers
abbrev pub HoldsRun : ℕ → List ℕ → List ℕ → Type 0
HoldsRun n steps answers = (length steps ≡ step_width * n) × (length answers ≡ answer_width * n)

-- n steps are taken on words ws, and these are their answers
abbrev pub RunOn : ℕ → List ℕ → List ℕ → List ℕ → List ℕ → Type 0
RunOn n ws steps ws' answers = (ws' ≡ run_words ws (steps_in n steps)) × (answers ≡ answers_of ws (steps_in n steps))
