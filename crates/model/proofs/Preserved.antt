-- The invariant holds of a fresh domain and is kept by every step. Assumes nothing.
use Prim.Native.Nat.{ℕ, ◌-◌, ◌<◌}
use mathlib.Core.List.{[]}
use mathlib.Core.Bool.{true}
use mathlib.Core.Path.{◌≡◌, refl}
use native.Mathlib.Omega.{arith}
use lib.ListN.{length-set, length-replicate, get_or-replicate, replicate}
use lib.Seq.{get_or-set_same}
use Rattle.lists.proofs.Stores.{replicate-at}
use Rattle.model.specs.Params.{Params}
use Rattle.model.specs.State.{Process, Domain, Step, Fast, Fallback, empty_hazard, no_process, free_node}
use Rattle.model.specs.State.{process_of, hazard_of, with_path}
use Rattle.model.specs.Kinds.{Kind, kind_of, Allocate, Publish, Protect, Check, Use, Clear, Remove, Retire}
use Rattle.model.specs.Kinds.{Drain, Flush, Tick, Manage, ClearPresence, Reinsert, Leave, Join, Portion}
use Rattle.model.specs.Kinds.{Unknown}
use Rattle.model.specs.Hazards.{here, pointer, validating, unassigned}
use Rattle.model.specs.Retire.{Effect, marked, fall_back, reclaim}
use Rattle.model.specs.Epochs.{called_by, counted, manage}
use Rattle.model.specs.Machine.{act, allocating, step, step_as, fresh}
use Rattle.model.proofs.Walk.{Asked, acting, by-step, by-reclaim, by-manage}
use Rattle.model.proofs.Handed.{heir}
use Rattle.model.proofs.Invariant.{Near, ProcessOk, OwnerPresent, Inv}
use Rattle.model.proofs.Updates.{set_node_lem, with_path_lem, clear_presence_lem}
use Rattle.model.proofs.Buffer.{hazards-here, keep-process, assign-keeps, validate-ok, drain-ok}
use Rattle.model.proofs.Buffer.{flush-ok, tick-ok}
use Rattle.model.proofs.Unclaimed.{partial-ok, scan-ok, quiescent-ok, marked-ok}
use Rattle.model.proofs.Leaving.{leave-ok, join-ok}

abbrev Keeps : Effect → Type 0
Keeps e = Inv e.after

pub fall_back_lem : (d : Domain) → Inv d → Inv (fall_back d)
fall_back_lem d i = clear_presence_lem (with_path d Fallback) (with_path_lem d i Fallback)

-- a manage counts, and sets presence: the process keeps its epoch and its hazards
pub counted-ok : (d : Domain) (s : Step) → Inv d → s.process < d.params.processes → (k v : ℕ) → Inv (counted d s k v)
counted-ok d s i hp k v = keep-process d s i hp _ refl refl refl (i.processes s.process)

reclaim-ok : (d : Domain) → Inv d → (p : ℕ) → Keeps (reclaim d p)
reclaim-ok d i p =
    by-reclaim Keeps d p (λ _. scan-ok d i p) (λ _ _. scan-ok (fall_back d) (fall_back_lem d i) p) (λ _ _. i)

manage-ok : (d : Domain) (s : Step) → Inv d → s.process < d.params.processes → unassigned (here d s) ≡ true → Keeps (manage d s)
manage-ok d s i hp u =
    by-manage Keeps d s
    (λ _ _ _. quiescent-ok (with_path m Fast) (with_path_lem m j Fast) s.process hp v)
    (λ _ _ _. j)
    (λ _ _. quiescent-ok m j s.process hp v)
    (λ _. counted-ok d s i hp (called_by d s) (here d s).presence)
  where
    m : Domain
    m = counted d s 0 1

    j : Inv m
    j = counted-ok d s i hp 0 1

    v : unassigned (process_of m s.process) ≡ true
    v = rw (get_or-set_same d.processes s.process _ no_process (rw i.shape.processes hp)) u

keep-as : (k : Kind) (d : Domain) (s : Step) → Inv d → Inv (step_as k d s).after
keep-as k d s i = by-step k d s (λ o. Inv o.after) (λ _ _. i) (kept k)
  where
    kept : (j : Kind) → Asked j d s → Inv (act j d s).after
    kept Allocate a = set_node_lem d i s.node (allocating s) (λ _. acting Allocate d s a refl refl) λ p h k o. absurd (omega (arith, a.state 0 refl))
    kept Publish a = set_node_lem d i s.node _ (λ o. absurd (o.1 refl)) λ p h k o. absurd (omega (arith, a.state 1 refl))
    kept Protect a = assign-keeps d s i (a.process refl) _ (a.hazard refl)
    kept Check a = keep-process d s i (a.process refl) (validating (here d s) s.hazard) (simp length-set) refl refl
        (validate-ok (i.processes s.process) (acting Check d s a refl refl) s.hazard ((pointer d s).assigned - 1)
        (rw (hazards-here d s i (a.process refl)) (a.hazard refl)) (omega (arith, a.assigned refl)) (a.reachable refl))
    kept Use a = i
    kept Clear a = assign-keeps d s i (a.process refl) 0 (a.hazard refl)
    kept Remove a = set_node_lem d i s.node _ (λ _. acting Remove d s a refl refl) λ p h k o. record { published = omega arith; limbo = λ e. absurd (omega arith) }
    kept Retire a = reclaim-ok (marked d s) (marked-ok d s i (a.process refl) (acting Retire d s a refl refl) (a.owner refl)) s.process
    kept Drain a =
        let r = drain-ok d (here d s) (here d s).buffer refl (i.processes s.process) in
        keep-process d s i (a.process refl) _ r.width r.epoch r.counts r.ok
    kept Flush a =
        let r = flush-ok d (here d s) (here d s).buffer refl (i.processes s.process) in
        keep-process d s i (a.process refl) _ r.width r.epoch r.counts r.ok
    kept Tick a = tick-ok d i (a.young' refl)
    kept Manage a = manage-ok d s i (a.process refl) (a.unassigned' refl)
    kept ClearPresence a = clear_presence_lem d i
    kept Reinsert a = set_node_lem d i s.node _ (λ o. absurd (o.1 refl)) λ p h k o. record { published = omega arith; limbo = λ e. absurd (omega arith) }
    kept Leave a = leave-ok d i s.process s.node (a.process refl) (a.unburdened' refl) (heir d s.process s.node (a.takes_over' refl))
    kept Join a = join-ok d i s.process (a.process refl) (a.present refl)
    kept Portion a = partial-ok d i s.process s.node _
    kept Unknown a = i

pub invariant-step : (d : Domain) (s : Step) → Inv d → Inv (step d s).after
unfolding step
invariant-step d s i = keep-as (kind_of s.kind) d s i

pub invariant-fresh : (a : Params) → Inv (fresh a)
unfolding fresh
invariant-fresh a =
    record {
      shape = record {
        processes = length-replicate a.processes _;
        hazards = λ p h. rw (get_or-replicate a.processes p idle no_process (rw length-replicate at h)) (length-replicate a.hazards empty_hazard);
        nodes = length-replicate a.nodes free_node;
      };
      epoch = omega arith;
      near = λ p h _. replicate-at (λ x. Near 0 x.epoch) a.processes idle no_process p (omega arith) (omega arith);
      processes = λ p. replicate-at (ProcessOk (fresh a)) a.processes idle no_process p
          (bare idle refl visible validated) (bare no_process refl (λ h. refl) (λ h. refl));
      owners = λ c. replicate-at (OwnerPresent (fresh a).processes) a.nodes free_node free_node c (λ o. absurd (o.0 refl)) (λ o. absurd (o.0 refl));
    }
  where
    idle : Process
    idle = record { epoch = 0; calls = 0; presence = 0; present = 1; buffer = []; hazards = replicate a.hazards empty_hazard }

    visible : (h : ℕ) → (hazard_of idle h).visible ≡ (hazard_of idle h).assigned
    visible h = replicate-at (λ y. y.visible ≡ y.assigned) a.hazards empty_hazard empty_hazard h refl refl

    validated : (h : ℕ) → (hazard_of idle h).validated ≡ 0
    validated h = replicate-at (λ y. y.validated ≡ 0) a.hazards empty_hazard empty_hazard h refl refl

    bare : (x : Process) → x.buffer ≡ [] → ((h : ℕ) → (hazard_of x h).visible ≡ (hazard_of x h).assigned)
        → ((h : ℕ) → (hazard_of x h).validated ≡ 0) → ProcessOk (fresh a) x
    bare x e f g =
        record {
          arrives = λ h. rw e (f h);
          timely = rw e tt;
          aimed = rw e tt;
          held = λ h n v _. absurd (omega (arith, g h));
          counts = λ h n v _. absurd (omega (arith, g h));
        }
