-- What each call answers and leaves, on any words: both numbers of the answer and every word afterwards. Assumes nothing.
use Rattle.std.specs.Prelude.{ℕ, cond, List, [], ◌∷◌, length, eqb}
use Rattle.model.specs.Params.{Params, word_count}
use Rattle.model.specs.State.{Step}
use Rattle.model.specs.Machine.{Outcome, PortionAnswer, step, portioned, fresh}
use Rattle.model.specs.Why.{Explained, Refused, explained}
use Rattle.model.specs.Claims.{reachable_count}
use Rattle.layout.specs.Encode.{encode, decode}
use Rattle.layout.specs.Words.{well_formed}
use Rattle.layout.specs.Ranges.{in_range}

-- an answer, and the words after the call
pub record Reply : Type 0 where
  pub refusal : ℕ
  pub value : ℕ
  pub words : List ℕ

-- refused: value 0, the same words
abbrev pub refusing : ℕ → List ℕ → Reply
refusing n ws = record { refusal = n; value = 0; words = ws }

-- ---- making a domain: 1 unless every parameter is in its range, then 2 unless the slice is exactly as long

unfoldable pub make_words : List ℕ → Params → Reply
make_words ws a =
    cond (in_range a)
    (cond (eqb (length ws) (word_count a)) (record { refusal = 0; value = 0; words = encode (fresh a) }) (refusing 2 ws))
    (refusing 1 ws)

-- ---- a step: 3 unless the words are well formed, else the model's step

abbrev pub through_words : Outcome → Reply
through_words o = record { refusal = o.refusal; value = o.value; words = encode o.after }

unfoldable pub step_words : List ℕ → Step → Reply
step_words ws s = cond (well_formed ws) (through_words (step (decode ws) s)) (refusing 3 ws)

-- ---- a portion of a scan, as a call apart from the step: 3 unless the words are well formed, else the model's

-- its answer, and the words after it
pub record PortionReply : Type 0 where
  pub refusal : ℕ
  pub freed : ℕ
  pub examined : ℕ
  pub next : ℕ
  pub left : ℕ
  pub words : List ℕ

-- refused: every other number 0, the same words
abbrev pub declining : ℕ → List ℕ → PortionReply
declining n ws = record { refusal = n; freed = 0; examined = 0; next = 0; left = 0; words = ws }

abbrev pub portion_through : PortionAnswer → PortionReply
portion_through x =
    record { refusal = x.refusal; freed = x.freed; examined = x.examined; next = x.next; left = x.left; words = encode x.after }

-- by process p, from node a, with limit l
unfoldable pub portion_words : List ℕ → ℕ → ℕ → ℕ → PortionReply
portion_words ws p a l = cond (well_formed ws) (portion_through (portioned (decode ws) p a l)) (declining 3 ws)

-- ---- the reachable count (the paper's panel), a call apart from the steps: 3 or the count

unfoldable pub reachable_words : List ℕ → Reply
reachable_words ws = cond (well_formed ws) (record { refusal = 0; value = reachable_count (decode ws); words = ws }) (refusing 3 ws)

-- ---- why a node waits, a call apart from the steps: 3, then 7, or what the rules say; it leaves all words as they are

unfoldable pub why_words : List ℕ → ℕ → Explained
why_words ws c = cond (well_formed ws) (explained (decode ws) c) (Refused 3)

-- ---- steps one after another

abbrev pub run_words : List ℕ → List Step → List ℕ
run_words ws [] = ws
run_words ws (s ∷ ss) = run_words (step_words ws s).words ss
