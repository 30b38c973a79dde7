-- Protect, check, use and clear, and the store buffer: a store that is added, the oldest one committed, the last one to a hazard.
-- Assumes nothing.
use Rattle.std.specs.Prelude.{ℕ, ◌-◌, Bool, cond, List, [], ◌∷◌, ◌++◌, ltb, eqb}
use Rattle.lists.specs.Tests.{every}
use Rattle.model.specs.Params.{delay}
use Rattle.model.specs.State.{Pending, Hazard, Process, Node, Domain, Step, node_of, process_of, hazard_of}
use Rattle.model.specs.State.{with_stores, set_hazard, set_process}

-- the process of a step, its hazard, and the node assigned to that
abbrev pub here : Domain → Step → Process
here d s = process_of d s.process

abbrev pub pointer : Domain → Step → Hazard
pointer d s = hazard_of (here d s) s.hazard

abbrev pub target : Domain → Step → Node
target d s = node_of d ((pointer d s).assigned - 1)

-- ---- 3 Protect, 6 Clear: assigned set, not validated, and the store added at the end of the buffer

abbrev pub pending : ℕ → ℕ → ℕ → Pending
pending h v t = record { hazard = h; node = v; time = t }

abbrev pub assigning : Process → ℕ → ℕ → ℕ → Process
assigning x h v t =
    with_stores x (x.buffer ++ (pending h v t ∷ []))
    (set_hazard x h (record { visible = (hazard_of x h).visible; assigned = v; validated = 0 }))

abbrev pub assign : Domain → Step → ℕ → Domain
assign d s v = set_process d s.process (assigning (here d s) s.hazard v d.clock)

-- ---- 4 Check

abbrev pub validating : Process → ℕ → Process
validating x h =
    with_stores x x.buffer
    (set_hazard x h (record { visible = (hazard_of x h).visible; assigned = (hazard_of x h).assigned; validated = 1 }))

-- ---- 9 Drain, 10 Flush

-- the stored node becomes visible in its hazard, and b is left in the buffer
abbrev pub committing : Process → Pending → List Pending → Process
committing x e b =
    with_stores x b
    (set_hazard x e.hazard (record {
      visible = e.node;
      assigned = (hazard_of x e.hazard).assigned;
      validated = (hazard_of x e.hazard).validated;
    }))

-- the oldest store of the buffer committed
abbrev pub drained : Process → List Pending → Process
drained x [] = x
drained x (e ∷ b) = committing x e b

-- all stores of the buffer committed, the oldest first
abbrev pub flushed : Process → List Pending → Process
flushed x [] = x
flushed x (e ∷ b) = flushed (committing x e b) b

-- what hazard h shows once the buffer is flushed: the node of the last pending store to it, or v where there is none
abbrev pub latest : List Pending → ℕ → ℕ → ℕ
latest [] h v = v
latest (e ∷ b) h v = latest b h (cond (eqb e.hazard h) e.node v)

-- ---- 11 Tick

-- every pending store of the process is younger than the delay
abbrev pub young : Domain → Process → Bool
young d x = every (λ e. ltb (d.clock - e.time) (delay d.params)) x.buffer

-- ---- 12 Manage

abbrev pub unassigned : Process → Bool
unassigned x = every (λ h. eqb h.assigned 0) x.hazards
