-- Words of which it is asked why a node waits, with the answer to each written by hand: the four answers at their edges, who is behind, and
-- the two refusals. Assumes nothing.
use Rattle.std.specs.Prelude.{ℕ, List, [], ◌∷◌, ◌++◌, ◌≡◌, replicate}
use Rattle.model.specs.Why.{Reason, NotRetired, Young, Visible, Ready, Behind, NotAsked, Nobody, Lagging, Explained, Refused, Told}
use Rattle.qsense.specs.Calls.{why_words}

-- the words of a domain with two processes, a hazard each, and two nodes, T = 3 and E = 2: its clock, path and epoch, the processes, the nodes
abbrev pub domain : ℕ → ℕ → ℕ → List ℕ → List ℕ → List ℕ → List ℕ → List ℕ
domain clock path epoch p q x y = 2 ∷ 1 ∷ 2 ∷ 3 ∷ 1 ∷ 1 ∷ 2 ∷ clock ∷ path ∷ epoch ∷ p ++ (q ++ (x ++ y))

-- a process with its local epoch, whether it is present, and what its hazard shows; the same with a pending store to that hazard
abbrev pub process : ℕ → ℕ → ℕ → List ℕ
process epoch present visible = epoch ∷ 0 ∷ 0 ∷ 0 ∷ present ∷ visible ∷ 0 ∷ 0 ∷ replicate 24 0

abbrev pub storing : ℕ → ℕ → ℕ → ℕ → List ℕ
storing epoch present visible node = epoch ∷ 0 ∷ 0 ∷ 1 ∷ present ∷ visible ∷ node ∷ 0 ∷ 0 ∷ node ∷ 0 ∷ replicate 21 0

-- a node that is Retired, by its owner and the clock then, and one that is not
abbrev pub retired : ℕ → ℕ → List ℕ
retired owner time = 4 ∷ owner ∷ 70 ∷ time ∷ 0 ∷ []

abbrev pub in_state : ℕ → List ℕ
in_state s = s ∷ 0 ∷ 0 ∷ 0 ∷ 0 ∷ []

-- a process that is present, at epoch 0, and shows nothing
abbrev pub idle : List ℕ
idle = process 0 1 0

pub record Case : Type 0 where
  pub words : List ℕ
  pub node : ℕ
  pub expected : Explained

abbrev pub case : List ℕ → ℕ → Explained → Case
case ws c e = record { words = ws; node = c; expected = e }

abbrev pub told : Reason → Behind → Explained
told r b = Told (record { reason = r; behind = b })

abbrev pub Answers : Case → Type 0
Answers c = why_words c.words c.node ≡ c.expected

abbrev pub cases : List Case
cases =
    -- in each other state
    case (domain 9 0 0 idle idle (in_state 0) (in_state 2)) 0 (told (NotRetired 0) Nobody)
    ∷ case (domain 9 0 0 idle idle (in_state 0) (in_state 1)) 1 (told (NotRetired 1) Nobody)
    ∷ case (domain 9 0 0 idle idle (in_state 0) (in_state 2)) 1 (told (NotRetired 2) Nobody)
    ∷ case (domain 9 0 0 idle idle (in_state 3) (in_state 2)) 0 (told (NotRetired 3) Nobody)
    -- just retired: T + E + 1 ticks; 5 ticks ago: 1 tick; 6 ticks ago: none
    ∷ case (domain 9 0 0 idle idle (retired 0 9) (in_state 0)) 0 (told (Young 6) Nobody)
    ∷ case (domain 9 0 0 idle idle (retired 0 4) (in_state 0)) 0 (told (Young 1) Nobody)
    ∷ case (domain 9 0 0 idle idle (retired 0 3) (in_state 0)) 0 (told Ready Nobody)
    -- too young is said before visible, and where the clock stops
    ∷ case (domain 9 0 0 idle (process 0 1 1) (retired 0 4) (in_state 0)) 0 (told (Young 1) Nobody)
    ∷ case (domain 4294967295 0 0 idle idle (retired 0 4294967293) (in_state 0)) 0 (told (Young 4) Nobody)
    -- visible in another's hazard, in its own, in both: the lowest process
    ∷ case (domain 9 0 0 idle (process 0 1 1) (retired 0 3) (in_state 0)) 0 (told (Visible 1 0) Nobody)
    ∷ case (domain 9 0 0 (process 0 1 2) idle (in_state 0) (retired 0 3)) 1 (told (Visible 0 0) Nobody)
    ∷ case (domain 9 0 0 (process 0 1 2) (process 0 1 2) (in_state 0) (retired 1 3)) 1 (told (Visible 0 0) Nobody)
    -- its owner's pending store counts before what is visible; another's does not count
    ∷ case (domain 9 0 0 (storing 0 1 0 1) idle (retired 0 3) (in_state 0)) 0 (told (Visible 0 0) Nobody)
    ∷ case (domain 9 0 0 (storing 0 1 1 0) idle (retired 0 3) (in_state 0)) 0 (told Ready Nobody)
    ∷ case (domain 9 0 0 (storing 0 1 0 1) idle (retired 1 3) (in_state 0)) 0 (told Ready Nobody)
    -- the owner is absent: its own stores still count as it knows them
    ∷ case (domain 9 0 0 idle (storing 0 0 1 0) (retired 1 3) (in_state 0)) 0 (told Ready Nobody)
    -- behind: the lowest that is present; an absent one is not named; on the fallback path nobody is
    ∷ case (domain 9 0 1 idle idle (retired 0 3) (in_state 0)) 0 (told Ready (Lagging 0))
    ∷ case (domain 9 0 0 idle (process 2 1 0) (in_state 0) (in_state 0)) 1 (told (NotRetired 0) (Lagging 1))
    ∷ case (domain 9 0 1 (process 0 0 0) (process 1 1 0) (retired 1 9) (in_state 0)) 0 (told (Young 6) Nobody)
    ∷ case (domain 9 1 1 idle idle (retired 0 3) (in_state 0)) 0 (told Ready NotAsked)
    -- 7 past the last node, and 3 before it
    ∷ case (domain 9 0 0 idle idle (in_state 0) (in_state 0)) 2 (Refused 7)
    ∷ case (domain 9 0 3 idle idle (in_state 0) (in_state 0)) 2 (Refused 3)
    ∷ []
