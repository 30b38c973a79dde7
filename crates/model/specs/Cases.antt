-- What closed schedules share: the answers of a run, and short makers of answers, steps, parameters and the parts of a domain.
-- Assumes nothing.
use Rattle.std.specs.Prelude.{ℕ, List, [], ◌∷◌, replicate}
use Rattle.model.specs.Params.{Params, params_of}
use Rattle.model.specs.State.{Pending, Hazard, Process, Node, Domain, Step}
use Rattle.model.specs.Machine.{Outcome, PortionAnswer}

-- ---- answers

pub record Answer : Type 0 where
  pub refusal : ℕ
  pub value : ℕ

abbrev pub gives : ℕ → Answer
gives v = record { refusal = 0; value = v }

abbrev pub refuses : ℕ → Answer
refuses n = record { refusal = n; value = 0 }

-- the five numbers of a portion
pub record Numbers : Type 0 where
  pub refusal : ℕ
  pub freed : ℕ
  pub examined : ℕ
  pub next : ℕ
  pub left : ℕ

abbrev pub numbers_of : PortionAnswer → Numbers
numbers_of x = record { refusal = x.refusal; freed = x.freed; examined = x.examined; next = x.next; left = x.left }

-- freed, examined, next and left; and those where it is refused
abbrev pub tells : ℕ → ℕ → ℕ → ℕ → Numbers
tells f x n k = record { refusal = 0; freed = f; examined = x; next = n; left = k }

abbrev pub declines : ℕ → Numbers
declines n = record { refusal = n; freed = 0; examined = 0; next = 0; left = 0 }

-- n times accepted, value 0
abbrev pub oks : ℕ → List Answer
oks n = replicate n (gives 0)

-- what machine f answers to each step of a list
abbrev pub answers_by : (Domain → Step → Outcome) → Domain → List Step → List Answer
answers_by f d [] = []
answers_by f d (s ∷ ss) = record { refusal = (f d s).refusal; value = (f d s).value } ∷ answers_by f (f d s).after ss

-- ---- steps: kind, process, hazard, node, guest; fields that are not read are 0

abbrev pub step_of : ℕ → ℕ → ℕ → ℕ → ℕ → Step
step_of k p h c g = record { kind = k; process = p; hazard = h; node = c; guest = g }

abbrev pub allocate : ℕ → ℕ → ℕ → Step
allocate p c g = step_of 1 p 0 c g

abbrev pub publish : ℕ → ℕ → Step
publish p c = step_of 2 p 0 c 0

abbrev pub protect : ℕ → ℕ → ℕ → Step
protect p h c = step_of 3 p h c 0

abbrev pub check : ℕ → ℕ → Step
check p h = step_of 4 p h 0 0

abbrev pub use' : ℕ → ℕ → Step
use' p h = step_of 5 p h 0 0

abbrev pub clear : ℕ → ℕ → Step
clear p h = step_of 6 p h 0 0

abbrev pub remove : ℕ → ℕ → Step
remove p c = step_of 7 p 0 c 0

abbrev pub retire : ℕ → ℕ → Step
retire p c = step_of 8 p 0 c 0

abbrev pub drain : ℕ → Step
drain p = step_of 9 p 0 0 0

abbrev pub flush : ℕ → Step
flush p = step_of 10 p 0 0 0

abbrev pub tick : Step
tick = step_of 11 0 0 0 0

abbrev pub manage : ℕ → Step
manage p = step_of 12 p 0 0 0

abbrev pub reinsert : ℕ → ℕ → Step
reinsert p c = step_of 14 p 0 c 0

abbrev pub clear_presence : Step
clear_presence = step_of 13 0 0 0 0

-- process p leaves, and process q takes over
abbrev pub leave : ℕ → ℕ → Step
leave p q = step_of 15 p 0 q 0

abbrev pub join : ℕ → Step
join p = step_of 16 p 0 0 0

-- process p scans from node c on, and meets at most l of its Retired nodes
abbrev pub portion : ℕ → ℕ → ℕ → Step
portion p c l = step_of 17 p 0 c l

-- node c comes and goes: process p allocates it for guest g, publishes, removes and retires it
abbrev pub turnover : ℕ → ℕ → ℕ → List Step
turnover p c g = allocate p c g ∷ publish p c ∷ remove p c ∷ retire p c ∷ []

-- node 0 comes and goes at process 0, and 2 ticks later a hazard of process p still shows it to all (8 steps)
abbrev pub shown_to_all : ℕ → List Step
shown_to_all p =
    allocate 0 0 70 ∷ publish 0 0 ∷ protect p 0 0 ∷ flush p ∷ remove 0 0 ∷ retire 0 0 ∷ tick ∷ tick ∷ []

-- node 0 of guest 70 in a validated hazard of process 1, and then removed and put back by process p (6 steps)
abbrev pub stop_and_back : ℕ → List Step
stop_and_back p =
    allocate 0 0 70 ∷ publish 0 0 ∷ protect 1 0 0 ∷ check 1 0 ∷ remove p 0 ∷ reinsert p 0 ∷ []

-- ---- parameters and domains: each field in the order of its record. The paper's numbers and none of the rules' names, so that a wrong
-- name there is found out

-- N, K, M, T, Q, C, and E = 0: flushes in time
abbrev pub params : ℕ → ℕ → ℕ → ℕ → ℕ → ℕ → Params
params n k m t q c = params_of n k m t q c 0

-- hazard, node + 1, time
abbrev pub store : ℕ → ℕ → ℕ → Pending
store h v t = record { hazard = h; node = v; time = t }

-- visible, assigned, validated
abbrev pub hazard : ℕ → ℕ → ℕ → Hazard
hazard v a k = record { visible = v; assigned = a; validated = k }

-- epoch, calls, presence, buffer, hazards; present, and absent
abbrev pub process : ℕ → ℕ → ℕ → List Pending → List Hazard → Process
process e k v b hs = record { epoch = e; calls = k; presence = v; present = 1; buffer = b; hazards = hs }

abbrev pub asleep : ℕ → ℕ → ℕ → List Pending → List Hazard → Process
asleep e k v b hs = record { epoch = e; calls = k; presence = v; present = 0; buffer = b; hazards = hs }

abbrev pub free : Node
free = record { state = 0; owner = 0; guest = 0; retired_at = 0; limbo = 0 }

-- owner, guest
abbrev pub allocated : ℕ → ℕ → Node
allocated p g = record { state = 1; owner = p; guest = g; retired_at = 0; limbo = 0 }

-- guest
abbrev pub reachable : ℕ → Node
reachable g = record { state = 2; owner = 0; guest = g; retired_at = 0; limbo = 0 }

-- owner, guest
abbrev pub removed : ℕ → ℕ → Node
removed p g = record { state = 3; owner = p; guest = g; retired_at = 0; limbo = 0 }

-- owner, guest, retired_at, limbo
abbrev pub retired : ℕ → ℕ → ℕ → ℕ → Node
retired p g t e = record { state = 4; owner = p; guest = g; retired_at = t; limbo = e }

-- parameters, clock, path (0 fast, 1 fallback), epoch, processes, nodes
abbrev pub domain : Params → ℕ → ℕ → ℕ → List Process → List Node → Domain
domain a t v e ps ns = record { params = a; clock = t; path = v; epoch = e; processes = ps; nodes = ns }

-- a well-formed domain that no run reaches: at clock 2, on the fallback path, process 0 has stored node 0 into its hazard and assigned node 1
-- to it, and both were retired at 0
abbrev pub stray : Domain
stray =
    domain (params 1 1 3 1 1 1) 2 1 0
    (process 0 0 0 (store 0 1 2 ∷ []) (hazard 0 2 0 ∷ []) ∷ [])
    (retired 0 70 0 0 ∷ retired 0 71 0 0 ∷ free ∷ [])

-- at clock 4, on the fallback path, with T = 1 and the seven nodes ns: process 1 has validated node 4 and shows it to all
abbrev pub crowd : List Node → Domain
crowd ns =
    domain (params 2 1 7 1 1 1) 4 1 0 (process 0 0 1 [] (hazard 0 0 0 ∷ []) ∷ process 0 0 0 [] (hazard 5 5 1 ∷ []) ∷ []) ns

-- Retired nodes: of process 0 node 0, 2 (of age T), 4 (which is shown), 5 and 6, and of process 1 node 3
abbrev pub crowded : Domain
crowded =
    crowd (retired 0 70 0 0 ∷ removed 0 71 ∷ retired 0 72 3 1 ∷ retired 1 73 0 0 ∷ retired 0 74 0 0 ∷ retired 0 75 1 2 ∷ retired 0 76 2 0 ∷ [])
