-- The machine: what each kind does, a step, a run over a list, and a fresh domain. Assumes nothing.
use Rattle.std.specs.Prelude.{ℕ, suc, ◌+◌, cond, List, [], ◌∷◌, replicate, eqb}
use Rattle.model.specs.Params.{Params}
use Rattle.model.specs.State.{Node, Domain, Step, Allocated, Reachable, Removed, Fast, free_node}
use Rattle.model.specs.State.{empty_hazard, node_of, set_node, set_process, with_clock, clear_presence}
use Rattle.model.specs.Kinds.{Kind, kind_of, number_of, Allocate, Publish, Protect, Check, Use, Clear, Remove}
use Rattle.model.specs.Kinds.{Retire}
use Rattle.model.specs.Kinds.{Drain, Flush, Tick, Manage, ClearPresence, Reinsert, Leave, Join, Portion}
use Rattle.model.specs.Kinds.{Unknown}
use Rattle.model.specs.Hazards.{here, target, assign, validating, drained, flushed}
use Rattle.model.specs.Retire.{Effect, effect, marked, reclaim}
use Rattle.model.specs.Epochs.{manage}
use Rattle.model.specs.Leave.{leave, join}
use Rattle.model.specs.Portion.{Scanned, portion}
use Rattle.model.specs.Questions.{refusal_of}

-- the refusal number, 0 for accepted; the value; and the domain afterwards
pub record Outcome : Type 0 where
  pub refusal : ℕ
  pub value : ℕ
  pub after : Domain

abbrev pub refused : ℕ → Domain → Outcome
refused n d = record { refusal = n; value = 0; after = d }

abbrev pub accepted : Effect → Outcome
accepted e = record { refusal = 0; value = e.value; after = e.after }

-- ---- 1 Allocate, 2 Publish and 14 Reinsert, 7 Remove

abbrev pub allocating : Step → Node
allocating s = record { state = Allocated; owner = s.process; guest = s.guest; retired_at = 0; limbo = 0 }

-- to Reachable, from Allocated as from Removed
abbrev pub publishing : Node → Node
publishing n = record { state = Reachable; owner = 0; guest = n.guest; retired_at = n.retired_at; limbo = n.limbo }

abbrev pub removing : ℕ → Node → Node
removing p n = record { state = Removed; owner = p; guest = n.guest; retired_at = n.retired_at; limbo = n.limbo }

-- what each kind does once every question is answered yes
abbrev pub act : Kind → Domain → Step → Effect
act Allocate d s = effect 0 (set_node d s.node (allocating s))
act Publish d s = effect 0 (set_node d s.node (publishing (node_of d s.node)))
act Protect d s = effect 0 (assign d s (suc s.node))
act Check d s = effect 0 (set_process d s.process (validating (here d s) s.hazard))
act Use d s = effect (target d s).guest d
act Clear d s = effect 0 (assign d s 0)
act Remove d s = effect 0 (set_node d s.node (removing s.process (node_of d s.node)))
act Retire d s = reclaim (marked d s) s.process
act Drain d s = effect 0 (set_process d s.process (drained (here d s) (here d s).buffer))
act Flush d s = effect 0 (set_process d s.process (flushed (here d s) (here d s).buffer))
act Tick d s = effect 0 (with_clock d (d.clock + 1))
act Manage d s = manage d s
act ClearPresence d s = effect 0 (clear_presence d)
act Reinsert d s = effect 0 (set_node d s.node (publishing (node_of d s.node)))
act Leave d s = effect 0 (leave d s.process s.node)
act Join d s = effect 0 (join d s.process)
act Portion d s = effect (portion d s.process s.node s.guest).freed (portion d s.process s.node s.guest).after
act Unknown d s = effect 0 d

-- a refusal number turns the effect away
abbrev pub answered : ℕ → Domain → Effect → Outcome
answered r d e = cond (eqb r 0) (accepted e) (refused r d)

abbrev pub step_as : Kind → Domain → Step → Outcome
step_as k d s = answered (refusal_of k d s) d (act k d s)

unfoldable pub step : Domain → Step → Outcome
step d s = step_as (kind_of s.kind) d s

-- ---- 17 as a call of its own, with an answer of its own

-- all 0 where it is refused
pub record PortionAnswer : Type 0 where
  pub refusal : ℕ
  pub freed : ℕ
  pub examined : ℕ
  pub next : ℕ
  pub left : ℕ
  pub after : Domain

abbrev pub declined : ℕ → Domain → PortionAnswer
declined n d = record { refusal = n; freed = 0; examined = 0; next = 0; left = 0; after = d }

abbrev pub taken : Scanned → PortionAnswer
taken x = record { refusal = 0; freed = x.freed; examined = x.examined; next = x.next; left = x.left; after = x.after }

-- by process p, from node a, with limit l
abbrev pub portion_step : ℕ → ℕ → ℕ → Step
portion_step p a l = record { kind = number_of Portion; process = p; hazard = 0; node = a; guest = l }

-- its questions are those of the step
unfoldable pub portioned : Domain → ℕ → ℕ → ℕ → PortionAnswer
portioned d p a l =
    cond (eqb (refusal_of Portion d (portion_step p a l)) 0) (taken (portion d p a l)) (declined (refusal_of Portion d (portion_step p a l)) d)

-- the domain after a list of steps
abbrev pub run : Domain → List Step → Domain
run d [] = d
run d (s ∷ ss) = run (step d s).after ss

-- the parameters, every process present, and 0 elsewhere
unfoldable pub fresh : Params → Domain
fresh a =
    record {
      params = a;
      clock = 0;
      path = Fast;
      epoch = 0;
      processes = replicate a.processes
          (record { epoch = 0; calls = 0; presence = 0; present = 1; buffer = []; hazards = replicate a.hazards empty_hazard });
      nodes = replicate a.nodes free_node;
    }
