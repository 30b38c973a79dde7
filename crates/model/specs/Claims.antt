-- What is promised of the rules: demands 2 and 3, well-formedness, refusals, fields that are not read, what E is, why a node waits, and a scan
-- in portions; that what is Retired is freed within seven rounds stands in Rounds.antt.
-- Statements only; the theorems of these types stand in proofs/Theorems.antt. Assumes nothing.
use Rattle.std.specs.Prelude.{ℕ, suc, ◌+◌, ◌-◌, ◌*◌, ◌<◌, ◌≤◌, max, ◌≡◌, ◌≢◌, ◌↔◌, Bool, true, false, not, ◌&&◌, ◌||◌, cond, List, [], ◌∷◌, ◌++◌, length, replicate, leb, eqb}
use Rattle.lists.specs.Tests.{every, count, count_from, All}
use Rattle.model.specs.Params.{Params, InRange, delay}
use Rattle.model.specs.State.{Node, Domain, Step, Free, Reachable, Retired, Fast, Fallback, node_of, process_of}
use Rattle.model.specs.State.{hazard_of, with_params}
use Rattle.model.specs.WellFormed.{WellFormed}
use Rattle.model.specs.Kinds.{Meaning, means, row_of, kind_of, Unread}
use Rattle.model.specs.Retire.{retired_by, age_of, old_enough, aged, within, scan}
use Rattle.model.specs.Portion.{Scanned, limit_in_range, portion}
use Rattle.model.specs.Why.{Reason, NotRetired, Young, Visible, Ready, Behind, NotAsked, Nobody, Lagging, Why}
use Rattle.model.specs.Why.{shown_at, why}
use Rattle.model.specs.Machine.{Outcome, PortionAnswer, step, run, portion_step, portioned, fresh}
use Rattle.model.specs.Reference.{Cell, Reference, Command, initial, cell_at, row_at, pointer_at, asks}
use Rattle.model.specs.Reference.{follow, value_of, free_each, EachFreeable}

-- ---- Refusals and unread fields

abbrev pub RefusedUnchanged : Type 0
RefusedUnchanged = (d : Domain) (s : Step) → (step d s).refusal ≢ 0 → ((step d s).value ≡ 0) × ((step d s).after ≡ d)

abbrev pub reads : Meaning → Bool
reads m = not (means m Unread)

-- steps of one kind whose read fields are equal. Unknown kinds are one kind, and it reads none
pub record SameRead (s t : Step) : Type 0 where
  pub kind : kind_of s.kind ≡ kind_of t.kind
  pub process : reads (row_of (kind_of s.kind)).process ≡ true → s.process ≡ t.process
  pub hazard : reads (row_of (kind_of s.kind)).hazard ≡ true → s.hazard ≡ t.hazard
  pub node : reads (row_of (kind_of s.kind)).node ≡ true → s.node ≡ t.node
  pub guest : reads (row_of (kind_of s.kind)).guest ≡ true → s.guest ≡ t.guest

abbrev pub UnreadFields : Type 0
UnreadFields = (d : Domain) (s t : Step) → SameRead s t → step d s ≡ step d t

-- ---- Well-formedness

abbrev pub FreshWellFormed : Type 0
FreshWellFormed = (a : Params) → InRange a → WellFormed (fresh a)

abbrev pub StepWellFormed : Type 0
StepWellFormed = (d : Domain) (s : Step) → WellFormed d → WellFormed (step d s).after

-- ---- Demand 2

-- the panel's number
abbrev pub reachable_count : Domain → ℕ
reachable_count d = count (λ n. eqb n.state Reachable) d.nodes

-- the kinds that raise it: publish and reinsert; and the one that lowers it: remove
abbrev pub raises : ℕ → Bool
raises k = eqb k 2 || eqb k 14

abbrev pub lowers : ℕ → Bool
lowers k = eqb k 7

-- 1 for an accepted step of a kind among ks
abbrev pub accepted_as : (ℕ → Bool) → ℕ → ℕ → ℕ
accepted_as ks kind refusal = cond (eqb refusal 0 && ks kind) 1 0

-- the accepted steps of those kinds in a run
abbrev pub accepted_of : (ℕ → Bool) → Domain → List Step → ℕ
accepted_of ks d [] = 0
accepted_of ks d (s ∷ ss) =
    accepted_as ks s.kind (step d s).refusal + accepted_of ks (step d s).after ss

-- accepted publishes and reinserts less accepted removes
abbrev pub Panel : Type 0
Panel =
    (a : Params) (ss : List Step)
    → reachable_count (run (fresh a) ss) + accepted_of lowers (fresh a) ss ≡ accepted_of raises (fresh a) ss

-- in one step it rises by an accepted publish or reinsert and falls by an accepted remove
abbrev pub PanelStep : Type 0
PanelStep =
    (d : Domain) (s : Step) → WellFormed d
    → reachable_count (step d s).after + accepted_as lowers s.kind (step d s).refusal
    ≡ reachable_count d + accepted_as raises s.kind (step d s).refusal

-- steps s and t are a remove (7) and the reinsert (14) that takes it back: the same process, the same node
pub record TakenBack (s t : Step) : Type 0 where
  pub remove : s.kind ≡ 7
  pub reinsert : t.kind ≡ 14
  pub process : t.process ≡ s.process
  pub node : t.node ≡ s.node

-- a reinsert right after the accepted remove is accepted, and the domain is as it was before the two
abbrev pub RemoveTakenBack : Type 0
RemoveTakenBack =
    (d : Domain) (s t : Step) → WellFormed d → TakenBack s t → (step d s).refusal ≡ 0
    → step (step d s).after t ≡ record { refusal = 0; value = 0; after = d }

-- the kinds whose value is nodes freed: retire, manage and portion
abbrev pub reports_freed : ℕ → Bool
reports_freed k = eqb k 8 || (eqb k 12 || eqb k 17)

-- the nodes that a step is to free: as many as it reports
abbrev pub freed_count : Step → Outcome → ℕ
freed_count s o = cond (eqb o.refusal 0 && reports_freed s.kind) o.value 0

-- the nodes that were not Free before, and are after
abbrev pub turned_free : Domain → Domain → ℕ
turned_free d d' = count_from (λ c n. not (eqb n.state Free) && eqb (node_of d' c).state Free) 0 d.nodes

abbrev pub FreedAreCounted : Type 0
FreedAreCounted = (d : Domain) (s : Step) → turned_free d (step d s).after ≡ freed_count s (step d s)

-- ---- Demand 3: one claim about a whole list of steps

abbrev pub command_of : Step → Command
command_of s = record { kind = s.kind; process = s.process; hazard = s.hazard; node = s.node; guest = s.guest }

-- the reference after a step, before its frees; a refused step changes nothing in it
abbrev pub led : Reference → Step → Outcome → Reference
led q s o = cond (eqb o.refusal 0) (follow q (command_of s)) q

-- the reference holds M nodes and N × K hazards, and all that it holds is the same on the domain
pub record Agrees (a : Params) (q : Reference) (d : Domain) : Type 0 where
  pub nodes : length q.cells ≡ a.nodes
  pub processes : length q.pointers ≡ a.processes
  pub hazards : (p : ℕ) → p < a.processes → length (row_at q p) ≡ a.hazards
  pub state : (c : ℕ) → (cell_at q c).state ≡ (node_of d c).state
  pub owner : (c : ℕ) → (cell_at q c).owner ≡ (node_of d c).owner
  pub guest : (c : ℕ) → (cell_at q c).guest ≡ (node_of d c).guest
  pub assigned : (p h : ℕ) → (pointer_at q p h).assigned ≡ (hazard_of (process_of d p) h).assigned
  pub validated : (p h : ℕ) → (pointer_at q p h).validated ≡ (hazard_of (process_of d p) h).validated

-- one step of the list, with the nodes cs chosen for its frees
pub record Matches (a : Params) (q : Reference) (s : Step) (o : Outcome) (cs : List ℕ) : Type 0 where
  pub questions : o.refusal ≡ 0 → every (λ b. b) (asks q (command_of s)) ≡ true
  pub value : o.refusal ≡ 0 → s.kind ≡ 5 → value_of q (command_of s) ≡ o.value
  pub many : length cs ≡ freed_count s o
  pub freeable : EachFreeable (led q s o) cs
  pub agrees : Agrees a (free_each (led q s o) cs) o.after

-- what the bound looks back on: the accepted ticks, and each retirement with the ticks before it
pub record Retirement : Type 0 where
  pub process : ℕ
  pub clock : ℕ

pub record History : Type 0 where
  pub ticks : ℕ
  pub retirements : List Retirement

abbrev pub no_history : History
no_history = record { ticks = 0; retirements = [] }

-- the unfreed retired nodes of p, on the reference
abbrev pub unfreed : ℕ → Cell → Bool
unfreed p x = eqb x.state 4 && eqb x.owner p

-- what an accepted step adds: a retire (8) one retirement, a tick (11) one tick, a leave (15) a retirement by the second process for each
-- node that passes to it, as the reference before the step has them
abbrev pub noted : Reference → Step → History → History
noted q s h =
    cond (eqb s.kind 8)
    (record { ticks = h.ticks; retirements = record { process = s.process; clock = h.ticks } ∷ h.retirements })
    (cond (eqb s.kind 11) (record { ticks = h.ticks + 1; retirements = h.retirements })
    (cond (eqb s.kind 15)
    (record {
      ticks = h.ticks;
      retirements = replicate (count (unfreed s.process) q.cells) (record { process = s.node; clock = h.ticks }) ++ h.retirements;
    })
    h))

abbrev pub recorded : Reference → Step → Outcome → History → History
recorded q s o h = cond (eqb o.refusal 0) (noted q s h) h

-- a retirement by p at a clock of at least t
abbrev pub retired_since : ℕ → ℕ → Retirement → Bool
retired_since p t r = eqb r.process p && leb t r.clock

abbrev pub bound : Params → History → ℕ → ℕ
bound a h p =
    max (a.fallback_threshold - 1)
    (a.processes * a.hazards + count (retired_since p (h.ticks - delay a)) h.retirements)

-- right after an accepted retire
abbrev pub Bounded : Params → History → Step → Outcome → Reference → Type 0
Bounded a h s o q = o.refusal ≡ 0 → s.kind ≡ 8 → count (unfreed s.process) q.cells ≤ bound a h s.process

abbrev pub Follows : Params → Reference → Domain → History → List Step → Type 0
Follows a q d h [] = Unit {0}
Follows a q d h (s ∷ ss) =
    (cs : List ℕ)
    × Matches a q s (step d s) cs
    × Bounded a (recorded q s (step d s) h) s (step d s) (free_each (led q s (step d s)) cs)
    × Follows a (free_each (led q s (step d s)) cs) (step d s).after (recorded q s (step d s) h) ss

abbrev pub Demand3 : Type 0
Demand3 =
    (a : Params) (ss : List Step) → Follows a (initial a.processes a.hazards a.nodes) (fresh a) no_history ss

-- ---- E is nothing but a longer T

-- T + E for T, and 0 for E
abbrev pub merged : Params → Params
merged a =
    record {
      processes = a.processes;
      hazards = a.hazards;
      nodes = a.nodes;
      visibility_bound = a.visibility_bound + a.lateness;
      quiescence_threshold = a.quiescence_threshold;
      fallback_threshold = a.fallback_threshold;
      lateness = 0;
    }

-- the domain with those parameters, and all else as it is
abbrev pub punctual : Domain → Domain
punctual d = with_params d (merged d.params)

abbrev pub punctually : Outcome → Outcome
punctually o = record { refusal = o.refusal; value = o.value; after = punctual o.after }

-- after any list of steps the next one has the same answer and leaves the same domain, the two parameters aside
abbrev pub LatenessIsDelay : Type 0
LatenessIsDelay =
    (d : Domain) (ss : List Step) (s : Step) → step (run (punctual d) ss) s ≡ punctually (step (run d ss) s)

-- and what it may leave unfreed is bounded by the same number
abbrev pub LatenessInBound : Type 0
LatenessInBound = (a : Params) (h : History) (p : ℕ) → bound (merged a) h p ≡ bound a h p

-- so with E = 0 the one age is T, and every answer is that of the rules without E
abbrev pub NoLateness : Type 0
NoLateness = (a : Params) → a.lateness ≡ 0 → delay a ≡ a.visibility_bound

-- ---- Why a node waits

-- a scan by process p now would free node c
pub record Frees (d : Domain) (p c : ℕ) : Type 0 where
  pub before : (node_of d c).state ≢ Free
  pub after : (node_of (scan d p).after c).state ≡ Free

-- an age t ticks higher is old enough, and one t - 1 higher is not: whether the clock can come to it or not
pub record TooYoung (d : Domain) (n : Node) (t : ℕ) : Type 0 where
  pub some : 1 ≤ t
  pub enough : old_enough d.params (age_of d n + t) ≡ true
  pub short : old_enough d.params (age_of d n + (t - 1)) ≡ false

-- hazard h of process q shows v to process p, and no hazard of a lower process does, nor a lower one of this
pub record LowestShowing (d : Domain) (p v q h : ℕ) : Type 0 where
  pub process : q < d.params.processes
  pub hazard : h < d.params.hazards
  pub shown : shown_at d p q h ≡ v
  pub lower : (q' h' : ℕ) → q' < q → shown_at d p q' h' ≢ v
  pub left : (h' : ℕ) → h' < h → shown_at d p q h' ≢ v

-- what an answer on node c, which is n, says, and that none before it is true
abbrev pub FirstTrue : Domain → ℕ → Node → Reason → Type 0
FirstTrue d c n (NotRetired s) = (s ≡ n.state) × (s ≢ Retired)
FirstTrue d c n (Young t) = (n.state ≡ Retired) × TooYoung d n t
FirstTrue d c n (Visible q h) = (n.state ≡ Retired) × (aged d n ≡ true) × LowestShowing d n.owner (suc c) q h
FirstTrue d c n Ready = (n.state ≡ Retired) × (aged d n ≡ true) × ((q h : ℕ) → shown_at d n.owner q h ≢ suc c)

-- process q is at the global epoch, if it is present
abbrev pub KeepsUp : Domain → ℕ → Type 0
KeepsUp d q = (process_of d q).present ≡ 1 → (process_of d q).epoch ≡ d.epoch

abbrev pub LowestBehind : Domain → Behind → Type 0
LowestBehind d NotAsked = d.path ≡ Fallback
LowestBehind d Nobody = (d.path ≡ Fast) × ((q : ℕ) → KeepsUp d q)
LowestBehind d (Lagging q) =
    (d.path ≡ Fast) × ((process_of d q).present ≡ 1) × ((process_of d q).epoch ≢ d.epoch) × ((q' : ℕ) → q' < q → KeepsUp d q')

pub record Exact (d : Domain) (c : ℕ) (w : Why) : Type 0 where
  pub first : FirstTrue d c (node_of d c) w.reason
  pub ready : (w.reason ≡ Ready) ↔ Frees d (node_of d c).owner c
  pub behind : LowestBehind d w.behind

-- whoever its owner is, absent or not
abbrev pub WhyIsExact : Type 0
WhyIsExact = (d : Domain) (c : ℕ) → WellFormed d → Exact d c (why d c)

-- ---- A scan in portions

-- the call and the step are one: the same refusal, as many nodes freed, the same domain after
abbrev pub step_of_portion : PortionAnswer → Outcome
step_of_portion x = record { refusal = x.refusal; value = x.freed; after = x.after }

abbrev pub PortionIsStep : Type 0
PortionIsStep = (d : Domain) (p a l : ℕ) → step d (portion_step p a l) ≡ step_of_portion (portioned d p a l)

-- the Retired nodes of process p from node a up to node b, that one left out
abbrev pub retired_within : Domain → ℕ → ℕ → ℕ → ℕ
retired_within d p a b = count_from (λ c n. within a b c && retired_by p n) 0 d.nodes

-- what portion x of process p, from node a with limit l, says of domain d before it
pub record ExactPortion (d : Domain) (p a l : ℕ) (x : Scanned) : Type 0 where
  -- whoever goes on from there ends
  pub goes_on : a < x.next
  pub inside : x.next ≤ d.params.nodes
  pub examined : x.examined ≡ retired_within d p a x.next
  pub most : x.examined ≤ l
  -- where fewer than l are met it comes to the end, and else the node before the one to go on from is the l-th
  pub fewer : x.examined < l → x.next ≡ d.params.nodes
  pub last : x.examined ≡ l → retired_by p (node_of d (x.next - 1)) ≡ true
  -- before it and after it
  pub left : x.left ≡ retired_within d p x.next d.params.nodes
  pub still : x.left ≡ retired_within x.after p x.next d.params.nodes

abbrev pub PortionIsExact : Type 0
PortionIsExact =
    (d : Domain) (p a l : ℕ) → WellFormed d → a < d.params.nodes → 1 ≤ l → ExactPortion d p a l (portion d p a l)

-- portions of one process in a row: the nodes freed in all, the node to go on from, the domain after them
pub record InPortions : Type 0 where
  pub freed : ℕ
  pub next : ℕ
  pub after : Domain

abbrev pub freeing_more : ℕ → InPortions → InPortions
freeing_more n x = record { freed = n + x.freed; next = x.next; after = x.after }

-- with these limits, the first from node a and each from where the one before ended, until a call is refused, as it is at the end (7)
abbrev pub portions : Domain → ℕ → ℕ → List ℕ → InPortions
portions d p a [] = record { freed = 0; next = a; after = d }
portions d p a (l ∷ ls) =
    cond (eqb (portioned d p a l).refusal 0)
    (freeing_more (portioned d p a l).freed (portions (portioned d p a l).after p (portioned d p a l).next ls))
    (record { freed = 0; next = a; after = d })

-- from node 0 to the end they free what one scan frees, and leave its domain
pub record WholeScan (d : Domain) (p : ℕ) (x : InPortions) : Type 0 where
  pub freed : x.freed ≡ (scan d p).value
  pub after : x.after ≡ (scan d p).after

abbrev pub PortionsAreScan : Type 0
PortionsAreScan =
    (d : Domain) (p : ℕ) (ls : List ℕ) → WellFormed d → (portions d p 0 ls).next ≡ d.params.nodes
    → WholeScan d p (portions d p 0 ls)

-- whoever is there comes to the end, with as many limits in range as there are nodes
abbrev pub PortionsEnd : Type 0
PortionsEnd =
    (d : Domain) (p : ℕ) (ls : List ℕ) → WellFormed d → p < d.params.processes → (process_of d p).present ≡ 1
    → All (λ l. limit_in_range l ≡ true) ls → d.params.nodes ≤ length ls → (portions d p 0 ls).next ≡ d.params.nodes
