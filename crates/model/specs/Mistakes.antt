-- Forty-three plausible mistakes, each as a machine that is wrong in one place; the schedules that tell them from the rules stand in
-- ToldApart.antt. Assumes nothing.
use Rattle.std.specs.Prelude.{ℕ, suc, ◌+◌, ◌-◌, min, Bool, true, not, ◌&&◌, ◌||◌, cond, List, [], ◌∷◌, ◌++◌, map, leb, ltb, eqb}
use Rattle.lists.specs.Tests.{every, implies, count, lacks}
use Rattle.model.specs.Params.{Params, params_of, delay}
use Rattle.model.specs.State.{Pending, Hazard, Process, Node, Domain, Step, Reachable, Removed, Retired, Fast}
use Rattle.model.specs.State.{Fallback, node_of, process_of, set_node, with_nodes, with_path, with_stores, set_process}
use Rattle.model.specs.State.{with_epoch, with_params, with_present, is_present, next_epoch}
use Rattle.model.specs.Kinds.{Kind, is, kind_of, Protect, Check, Clear, Retire, Tick, Manage, Reinsert, Leave}
use Rattle.model.specs.Kinds.{Join, Portion}
use Rattle.model.specs.Hazards.{here, target}
use Rattle.model.specs.Retire.{Effect, effect, retired_by, own_from, visible_to, aged, due, within, freeing}
use Rattle.model.specs.Retire.{marked}
use Rattle.model.specs.Retire.{retiring, overfull, fall_back}
use Rattle.model.specs.Epochs.{counted}
use Rattle.model.specs.Leave.{owned_by}
use Rattle.model.specs.Portion.{end_of}
use Rattle.model.specs.Questions.{ask, first_no, questions, refusal_of}
use Rattle.model.specs.Machine.{Outcome, act, answered}

-- ---- machines that are right but for one place

-- every step done as f does it
abbrev pub doing : (Kind → Domain → Step → Effect) → Domain → Step → Outcome
doing f d s = answered (refusal_of (kind_of s.kind) d s) d (f (kind_of s.kind) d s)

-- question n of the kinds ks, or of kind j alone, answered as f answers it
abbrev pub asking_of : ℕ → (Kind → Bool) → (Domain → Step → Bool) → Domain → Step → Outcome
asking_of n ks f d s =
    answered
    (first_no (map (λ q. cond (eqb q.number n && ks (kind_of s.kind)) (ask n (f d s)) q)
    (questions (kind_of s.kind) d s)))
    d (act (kind_of s.kind) d s)

abbrev pub asking : ℕ → Kind → (Domain → Step → Bool) → Domain → Step → Outcome
asking n j = asking_of n (λ k. is k j)

-- after a retire: the switch where full says so, as switch does it, and a scan that frees what passes
abbrev pub reclaim_by : (Domain → ℕ → Bool) → (Domain → Domain) → (Domain → ℕ → ℕ → Node → Bool) → Domain → ℕ → Effect
reclaim_by full switch passes d p =
    cond (eqb d.path Fallback) (freeing d (passes d p))
    (cond (full d p) (freeing (switch d) (passes (switch d) p))
    (effect 0 d))

abbrev pub retire_by : (Domain → ℕ → Bool) → (Domain → Domain) → (Domain → ℕ → ℕ → Node → Bool) → Domain → Step → Outcome
retire_by full switch passes =
    doing (λ k d s. cond (is k Retire) (reclaim_by full switch passes (marked d s) s.process) (act k d s))

-- ---- ten, in the rules of the first paper

-- a scan frees at age T exactly
abbrev pub frees_at_age_t : Domain → Step → Outcome
frees_at_age_t =
    retire_by overfull fall_back
    (λ d p c n. retired_by p n && (leb (delay d.params) (d.clock - n.retired_at) && lacks (visible_to d p) (suc c)))

-- an effect without the store that it added
abbrev pub no_store : Domain → Step → Effect → Effect
no_store d s e =
    effect 0 (set_process e.after s.process
    (with_stores (process_of e.after s.process) (here d s).buffer (process_of e.after s.process).hazards))

-- protect and clear add no store to the buffer on the fast path
abbrev pub no_store_on_fast_path : Domain → Step → Outcome
no_store_on_fast_path =
    doing (λ k d s. cond ((is k Protect || is k Clear) && eqb d.path Fast) (no_store d s (act k d s)) (act k d s))

-- a manage that adopts the global epoch, with limbo list l freed
abbrev pub other_limbo : ℕ → Domain → Step → Effect → Effect
other_limbo l d s e =
    cond (eqb (process_of e.after s.process).epoch (here d s).epoch) e
    (freeing (with_nodes e.after d.nodes) (λ c n. retired_by s.process n && eqb n.limbo l))

-- list l of the global epoch is freed where it should be that epoch's
abbrev pub frees_limbo : (ℕ → ℕ) → Domain → Step → Outcome
frees_limbo l = doing (λ k d s. cond (is k Manage) (other_limbo (l d.epoch) d s (act k d s)) (act k d s))

-- a limbo list is freed two epochs on, not three
abbrev pub frees_two_epochs_on : Domain → Step → Outcome
frees_two_epochs_on = frees_limbo next_epoch

-- a scan frees from the current limbo list only
abbrev pub scans_current_list_only : Domain → Step → Outcome
scans_current_list_only = retire_by overfull fall_back (λ d p c n. due d p c n && eqb n.limbo (process_of d p).epoch)

-- presence is kept over the switch to the fallback path
abbrev pub keeps_presence : Domain → Step → Outcome
keeps_presence = retire_by overfull (λ d. with_path d Fallback) due

-- a scan looks at no hazard
abbrev pub no_visible_test : Domain → Step → Outcome
no_visible_test = retire_by overfull fall_back (λ d p c n. retired_by p n && aged d n)

-- question 16 comes one tick late: a pending store of age T is still young
abbrev pub tick_one_late : Domain → Step → Outcome
tick_one_late =
    asking 16 Tick
    (λ d s. every (λ x. every (λ e. leb (d.clock - e.time) (delay d.params)) x.buffer) d.processes)

-- a process with assigned hazards may manage
abbrev pub no_question17 : Domain → Step → Outcome
no_question17 = asking 17 Manage (λ d s. true)

-- a check is content with a Removed node
abbrev pub checks_removed : Domain → Step → Outcome
checks_removed = asking 11 Check (λ d s. eqb (target d s).state Reachable || eqb (target d s).state Removed)

-- the switch only where there are more Retired nodes than C
abbrev pub over_c : Domain → Step → Outcome
over_c = retire_by (λ d p. ltb d.params.fallback_threshold (count (retired_by p) d.nodes)) fall_back due

-- ---- five, in what a scan sees. The first half of demand 3 objects to none of them, since by the time that a scan may free a node the
-- store of a claim on it is committed; the bound objects to the last

-- the hazards of all processes, the first being i, as process p sees them, each process's by see, which is told whether it is p's own
abbrev pub seen_from : (Bool → Process → List ℕ) → ℕ → ℕ → List Process → List ℕ
seen_from see p i [] = []
seen_from see p i (x ∷ xs) = see (eqb i p) x ++ seen_from see p (suc i) xs

abbrev pub scan_sees : (Bool → Process → List ℕ) → Domain → Step → Outcome
scan_sees see =
    retire_by overfull fall_back
    (λ d p c n. retired_by p n && (aged d n && lacks (seen_from see p 0 d.processes) (suc c)))

abbrev pub shown : Process → List ℕ
shown x = map (λ y. y.visible) x.hazards

-- own pending stores are not known, as in paper 01 alone
abbrev pub own_unknown : Domain → Step → Outcome
own_unknown = scan_sees (λ own x. shown x)

-- the node of the first pending store to hazard h, or v where there is none
abbrev pub first : List Pending → ℕ → ℕ → ℕ
first [] h v = v
first (e ∷ b) h v = cond (eqb e.hazard h) e.node (first b h v)

abbrev pub first_from : List Pending → ℕ → List Hazard → List ℕ
first_from b h [] = []
first_from b h (y ∷ ys) = first b h y.visible ∷ first_from b (suc h) ys

-- an own hazard counts as its first pending store, not its last
abbrev pub own_first : Domain → Step → Outcome
own_first = scan_sees (λ own x. cond own (first_from x.buffer 0 x.hazards) (shown x))

-- an own hazard counts as its assigned node
abbrev pub own_assigned : Domain → Step → Outcome
own_assigned = scan_sees (λ own x. cond own (map (λ y. y.assigned) x.hazards) (shown x))

-- the pending stores of other processes are known too
abbrev pub others_known : Domain → Step → Outcome
others_known = scan_sees (λ own x. own_from x.buffer 0 x.hazards)

-- an own hazard counts as its visible node beside the pending one
abbrev pub own_visible_too : Domain → Step → Outcome
own_visible_too = scan_sees (λ own x. cond own (own_from x.buffer 0 x.hazards ++ shown x) (shown x))

-- ---- five, in the putting back of a removed node

-- the node put back as f leaves it
abbrev pub reinsert_by : (Node → Node) → Domain → Step → Outcome
reinsert_by f =
    doing (λ k d s. cond (is k Reinsert) (effect 0 (set_node d s.node (f (node_of d s.node)))) (act k d s))

-- the owner is kept
abbrev pub reinsert_keeps_owner : Domain → Step → Outcome
reinsert_keeps_owner =
    reinsert_by (λ n. record { state = Reachable; owner = n.owner; guest = n.guest; retired_at = n.retired_at; limbo = n.limbo })

-- any process may reinsert
abbrev pub reinsert_by_anyone : Domain → Step → Outcome
reinsert_by_anyone = asking 9 Reinsert (λ d s. true)

-- a Retired node is taken too
abbrev pub reinsert_takes_retired : Domain → Step → Outcome
reinsert_takes_retired =
    asking 8 Reinsert (λ d s. eqb (node_of d s.node).state Removed || eqb (node_of d s.node).state Retired)

-- the guest is lost
abbrev pub reinsert_loses_guest : Domain → Step → Outcome
reinsert_loses_guest =
    reinsert_by (λ n. record { state = Reachable; owner = 0; guest = 0; retired_at = n.retired_at; limbo = n.limbo })

-- the panel is not raised: the node stays Removed
abbrev pub reinsert_not_raised : Domain → Step → Outcome
reinsert_not_raised = reinsert_by (λ n. n)

-- ---- seven, in leaving and joining

-- each Retired node of the leaver left as f leaves it, told the second process, the clock and that process's epoch
abbrev pub leave_by : (ℕ → ℕ → ℕ → Node → Node) → Domain → Step → Outcome
leave_by f =
    doing (λ k d s.
    cond (is k Leave)
    (effect 0 (with_nodes (act k d s).after
    (map (λ n. cond (retired_by s.process n) (f s.node d.clock (process_of d s.node).epoch n) n) d.nodes)))
    (act k d s))

-- the time of retirement is kept
abbrev pub leave_keeps_stamp : Domain → Step → Outcome
leave_keeps_stamp = leave_by (λ q t e n. retiring n.retired_at e (owned_by q n))

-- the limbo list is kept
abbrev pub leave_keeps_limbo : Domain → Step → Outcome
leave_keeps_limbo = leave_by (λ q t e n. retiring t n.limbo (owned_by q n))

-- the leaver's nodes are left behind
abbrev pub leaves_nodes_behind : Domain → Step → Outcome
leaves_nodes_behind = leave_by (λ q t e n. n)

-- a manage as the rules have it, taken back by f where all does not hold of every process, absent ones too
abbrev pub manage_unless : (Domain → Process → Bool) → (Domain → Step → Effect → Effect) → Domain → Step → Outcome
manage_unless all f =
    doing (λ k d s. cond (is k Manage && not (every (all d) d.processes)) (f d s (act k d s)) (act k d s))

-- the epoch of an absent process is waited for
abbrev pub waits_for_epoch : Domain → Step → Outcome
waits_for_epoch = manage_unless (λ d x. eqb x.epoch d.epoch) (λ d s e. effect e.value (with_epoch e.after d.epoch))

-- on the fallback path the presence of an absent process is waited for
abbrev pub waits_for_presence : Domain → Step → Outcome
waits_for_presence =
    manage_unless (λ d x. eqb d.path Fast || is_present x || eqb x.presence 1) (λ d s e. effect 0 (counted d s 0 1))

-- 20 is asked of leave and join only
abbrev pub absent_acts : Domain → Step → Outcome
absent_acts = asking_of 20 (λ k. not (is k Leave || is k Join)) (λ d s. true)

-- a process joins with the epoch that it has
abbrev pub join_keeps_epoch : Domain → Step → Outcome
join_keeps_epoch =
    doing (λ k d s. cond (is k Join) (effect 0 (set_process d s.process (with_present (here d s) 1))) (act k d s))

-- ---- three, in the time that a flush may come late

-- a scan that goes by age v of the domain
abbrev pub scans_at : (Params → ℕ) → Domain → Step → Outcome
scans_at v =
    retire_by overfull fall_back
    (λ d p c n. retired_by p n && (ltb (v d.params) (d.clock - n.retired_at) && lacks (visible_to d p) (suc c)))

-- question 16 by age v of the domain
abbrev pub younger_than : (Params → ℕ) → Domain → Bool
younger_than v d = every (λ x. every (λ e. ltb (d.clock - e.time) (v d.params)) x.buffer) d.processes

-- E counts in question 16, and not in the scan
abbrev pub scan_not_late : Domain → Step → Outcome
scan_not_late = scans_at (λ a. a.visibility_bound)

-- E counts in the scan, and not in question 16
abbrev pub tick_not_late : Domain → Step → Outcome
tick_not_late = asking 16 Tick (λ d s. younger_than (λ a. a.visibility_bound) d)

-- E counts twice in both
abbrev pub late_twice : Domain → Step → Outcome
late_twice d s =
    cond (is (kind_of s.kind) Tick) (asking 16 Tick (λ d s. younger_than (λ a. delay a + a.lateness) d) d s)
    (scans_at (λ a. delay a + a.lateness) d s)

-- ---- ten, in a portion of a scan

-- a portion from node a with limit l: it starts at start a, goes up to where end says, and frees what passes
abbrev pub portion_by : (ℕ → ℕ) → (Domain → ℕ → ℕ → ℕ → ℕ) → (Domain → ℕ → ℕ → Node → Bool) → Domain → Step → Outcome
portion_by start end passes =
    doing (λ k d s.
    cond (is k Portion)
    (freeing d (λ c n. within (start s.node) (end d s.process (start s.node) s.guest) c && passes d s.process c n))
    (act k d s))

-- the right nodes, and of them those that pass
abbrev pub portion_frees : (Domain → ℕ → ℕ → Node → Bool) → Domain → Step → Outcome
portion_frees = portion_by (λ a. a) end_of

-- it frees whatever the age
abbrev pub portion_frees_young : Domain → Step → Outcome
portion_frees_young = portion_frees (λ d p c n. retired_by p n && lacks (visible_to d p) (suc c))

-- it looks at no hazard
abbrev pub portion_unseen : Domain → Step → Outcome
portion_unseen = portion_frees (λ d p c n. retired_by p n && aged d n)

-- own pending stores are not known
abbrev pub portion_own_unknown : Domain → Step → Outcome
portion_own_unknown = portion_frees (λ d p c n. retired_by p n && (aged d n && lacks (seen_from (λ own x. shown x) p 0 d.processes) (suc c)))

-- the Retired nodes of all processes are taken
abbrev pub portion_takes_others : Domain → Step → Outcome
portion_takes_others = portion_frees (λ d p c n. eqb n.state Retired && (aged d n && lacks (visible_to d p) (suc c)))

-- the limit is on the nodes looked at, and not on the Retired ones
abbrev pub portion_of_nodes : Domain → Step → Outcome
portion_of_nodes = portion_by (λ a. a) (λ d p a l. min (a + l) d.params.nodes) due

-- there is no limit
abbrev pub portion_unlimited : Domain → Step → Outcome
portion_unlimited = portion_by (λ a. a) (λ d p a l. d.params.nodes) due

-- it starts from node 0
abbrev pub portion_from_zero : Domain → Step → Outcome
portion_from_zero = portion_by (λ a. 0) end_of due

-- a limit of 0 is taken
abbrev pub portion_of_none : Domain → Step → Outcome
portion_of_none = asking 23 Portion (λ d s. leb s.guest 256)

-- a limit above 256 is taken
abbrev pub portion_of_more : Domain → Step → Outcome
portion_of_more = asking 23 Portion (λ d s. leb 1 s.guest)

-- a portion may start past the last node
abbrev pub portion_past_last : Domain → Step → Outcome
portion_past_last = asking 7 Portion (λ d s. true)

-- ---- three, in the epochs. By two of them nodes are freed too late or never, to which demand 3 does not object

-- the global epoch goes on only where all have come to the epoch after it
abbrev pub advance_waits : Domain → Step → Outcome
advance_waits =
    manage_unless (λ d x. implies (is_present x) (eqb x.epoch (next_epoch d.epoch)))
    (λ d s e. effect e.value (with_epoch e.after d.epoch))

-- the limbo list of the epoch before is freed
abbrev pub frees_list_before : Domain → Step → Outcome
frees_list_before = frees_limbo (λ g. next_epoch (next_epoch g))

abbrev pub one_call_more : Params → Params
one_call_more a =
    params_of a.processes a.hazards a.nodes a.visibility_bound (a.quiescence_threshold + 1) a.fallback_threshold a.lateness

-- only each (Q + 1)-th manage acts
abbrev pub counts_past_q : Domain → Step → Outcome
counts_past_q =
    doing (λ k d s.
    cond (is k Manage)
    (effect (act k (with_params d (one_call_more d.params)) s).value
    (with_params (act k (with_params d (one_call_more d.params)) s).after d.params))
    (act k d s))
