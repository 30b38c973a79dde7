-- Words on which a portion of a scan is called for, with the five numbers of each answer and the words afterwards written by hand: at the limit,
-- past it, and the refusals in their order. Assumes nothing.
use Rattle.std.specs.Prelude.{ℕ, List, [], ◌∷◌, ◌≡◌}
use Rattle.qsense.specs.Calls.{PortionReply, portion_words}
use Rattle.qsense.specs.WhyCases.{domain, process, storing, retired, in_state, idle}

pub record Case : Type 0 where
  pub words : List ℕ
  -- process, start, limit
  pub process : ℕ
  pub start : ℕ
  pub limit : ℕ
  pub expected : PortionReply

-- refusal, freed, examined, next, left, and the words after the call
abbrev pub reply : ℕ → ℕ → ℕ → ℕ → ℕ → List ℕ → PortionReply
reply r f e n l ws = record { refusal = r; freed = f; examined = e; next = n; left = l; words = ws }

abbrev pub case : List ℕ → ℕ → ℕ → ℕ → PortionReply → Case
case ws p a l r = record { words = ws; process = p; start = a; limit = l; expected = r }

abbrev pub Answers : Case → Type 0
Answers c = portion_words c.words c.process c.start c.limit ≡ c.expected

-- both nodes Retired by process 0 at clock 3, with T + E = 5: at clock 9 both are old enough
abbrev pub full : List ℕ
full = domain 9 0 0 idle idle (retired 0 3) (retired 0 3)

-- the same, process 0 absent
abbrev pub parked : List ℕ
parked = domain 9 0 0 (process 0 0 0) idle (retired 0 3) (retired 0 3)

-- a word short
abbrev pub short : List ℕ
short = 2 ∷ 1 ∷ 2 ∷ []

abbrev pub cases : List Case
cases =
    -- one of two; the second is the last node; more than there are
    case full 0 0 1 (reply 0 1 1 1 1 (domain 9 0 0 idle idle (in_state 0) (retired 0 3)))
    ∷ case full 0 0 2 (reply 0 2 2 2 0 (domain 9 0 0 idle idle (in_state 0) (in_state 0)))
    ∷ case full 0 0 256 (reply 0 2 2 2 0 (domain 9 0 0 idle idle (in_state 0) (in_state 0)))
    -- from the last node; of a process that has none
    ∷ case full 0 1 1 (reply 0 1 1 2 0 (domain 9 0 0 idle idle (retired 0 3) (in_state 0)))
    ∷ case full 1 0 1 (reply 0 0 0 2 0 full)
    -- the first is too young and is examined; it is visible to all; it is what process 0 has stored last
    ∷ case (domain 9 1 0 idle idle (retired 0 4) (retired 0 3)) 0 0 1
    (reply 0 0 1 1 1 (domain 9 1 0 idle idle (retired 0 4) (retired 0 3)))
    ∷ case (domain 9 1 0 idle (process 0 1 1) (retired 0 3) (retired 0 3)) 0 0 2
    (reply 0 1 2 2 0 (domain 9 1 0 idle (process 0 1 1) (retired 0 3) (in_state 0)))
    ∷ case (domain 9 1 0 (storing 0 1 0 1) idle (retired 0 3) (retired 0 3)) 0 0 2
    (reply 0 1 2 2 0 (domain 9 1 0 (storing 0 1 0 1) idle (retired 0 3) (in_state 0)))
    -- 3; 5 before 20, 7 and 23; 20 before 7 and 23; 7 before 23; 23
    ∷ case short 0 0 1 (reply 3 0 0 0 0 short)
    ∷ case parked 2 2 0 (reply 5 0 0 0 0 parked)
    ∷ case parked 0 2 0 (reply 20 0 0 0 0 parked)
    ∷ case full 0 2 0 (reply 7 0 0 0 0 full)
    ∷ case full 0 1 0 (reply 23 0 0 0 0 full)
    ∷ case full 0 1 257 (reply 23 0 0 0 0 full)
    ∷ []
