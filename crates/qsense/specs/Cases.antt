-- Calls on the edge of the range of E, and the panel's number of three nodes, with the reply to each written by hand. Assumes nothing.
use Rattle.std.specs.Prelude.{ℕ, List, [], ◌∷◌, ◌++◌, ◌≡◌, replicate}
use Rattle.model.specs.Params.{params_of}
use Rattle.model.specs.Cases.{tick}
use Rattle.qsense.specs.Calls.{Reply, refusing, make_words, step_words, reachable_words}

-- the words of a fresh domain with one process, hazard and node, T = 1000, and this E: head, lead with its fifth word 1, and the rest
abbrev pub fresh_late : ℕ → List ℕ
fresh_late e = 1 ∷ 1 ∷ 1 ∷ 1000 ∷ 1 ∷ 1 ∷ e ∷ 0 ∷ 0 ∷ 0 ∷ 0 ∷ 0 ∷ 0 ∷ 0 ∷ 1 ∷ replicate 32 0

-- the same after a tick
abbrev pub ticked_late : ℕ → List ℕ
ticked_late e = 1 ∷ 1 ∷ 1 ∷ 1000 ∷ 1 ∷ 1 ∷ e ∷ 1 ∷ 0 ∷ 0 ∷ 0 ∷ 0 ∷ 0 ∷ 0 ∷ 1 ∷ replicate 32 0

-- the words of a domain with one process, one hazard and these three nodes, at clock 5
abbrev pub with_nodes : List ℕ → List ℕ → List ℕ → List ℕ
with_nodes x y z = 1 ∷ 1 ∷ 3 ∷ 3 ∷ 1 ∷ 1 ∷ 0 ∷ 5 ∷ 0 ∷ 0 ∷ 0 ∷ 0 ∷ 0 ∷ 0 ∷ 1 ∷ replicate 27 0 ++ (x ++ (y ++ z))

-- a node in each state
abbrev pub free : List ℕ
free = 0 ∷ 0 ∷ 0 ∷ 0 ∷ 0 ∷ []

abbrev pub allocated : List ℕ
allocated = 1 ∷ 0 ∷ 70 ∷ 0 ∷ 0 ∷ []

abbrev pub reachable : List ℕ
reachable = 2 ∷ 0 ∷ 70 ∷ 0 ∷ 0 ∷ []

abbrev pub removed : List ℕ
removed = 3 ∷ 0 ∷ 70 ∷ 0 ∷ 0 ∷ []

abbrev pub retired : List ℕ
retired = 4 ∷ 0 ∷ 70 ∷ 5 ∷ 2 ∷ []

-- malformed nodes: of no state; Reachable with an owner, who is no process either; retired after the clock
abbrev pub stateless : List ℕ
stateless = 5 ∷ 0 ∷ 0 ∷ 0 ∷ 0 ∷ []

abbrev pub owned : List ℕ
owned = 2 ∷ 1 ∷ 70 ∷ 0 ∷ 0 ∷ []

abbrev pub late : List ℕ
late = 4 ∷ 0 ∷ 70 ∷ 6 ∷ 2 ∷ []

-- a reply, and what it is to be
pub record Case : Type 0 where
  pub reply : Reply
  pub expected : Reply

abbrev pub case : Reply → Reply → Case
case r e = record { reply = r; expected = e }

-- the panel's answer on these words, which it leaves as they are: a count, or 3
abbrev pub shows : ℕ → List ℕ → Case
shows n ws = case (reachable_words ws) (record { refusal = 0; value = n; words = ws })

abbrev pub malformed : List ℕ → Case
malformed ws = case (reachable_words ws) (refusing 3 ws)

abbrev pub Replies : Case → Type 0
Replies c = c.reply ≡ c.expected

abbrev pub cases : List Case
cases =
    -- E = 1000 is made, in 47 words
    case (make_words (replicate 47 7) (params_of 1 1 1 1000 1 1 1000)) (record { refusal = 0; value = 0; words = fresh_late 1000 })
    -- in a word less it gets 2
    ∷ case (make_words (replicate 46 7) (params_of 1 1 1 1000 1 1 1000)) (refusing 2 (replicate 46 7))
    -- E = 1001 gets 1, before 2
    ∷ case (make_words (replicate 47 7) (params_of 1 1 1 1000 1 1 1001)) (refusing 1 (replicate 47 7))
    ∷ case (make_words (replicate 46 7) (params_of 1 1 1 1000 1 1 1001)) (refusing 1 (replicate 46 7))
    -- words with E = 1000 are stepped, and with E = 1001 they get 3
    ∷ case (step_words (fresh_late 1000) tick) (record { refusal = 0; value = 0; words = ticked_late 1000 })
    ∷ case (step_words (fresh_late 1001) tick) (refusing 3 (fresh_late 1001))
    -- the panel: all three are Reachable; the Removed one is not counted, and the last is; none is
    ∷ shows 3 (with_nodes reachable reachable reachable)
    ∷ shows 1 (with_nodes removed allocated reachable)
    ∷ shows 0 (with_nodes free retired removed)
    -- a malformed node, first, in the middle or last: those after it do not make it well again
    ∷ malformed (with_nodes stateless reachable reachable)
    ∷ malformed (with_nodes owned reachable free)
    ∷ malformed (with_nodes reachable late reachable)
    ∷ malformed (with_nodes reachable reachable owned)
    ∷ []
