-- Leave and join: who may leave and to whom, what passes to the other process, and how a process comes back. Assumes nothing.
use Rattle.std.specs.Prelude.{ℕ, Bool, not, ◌&&◌, ◌||◌, cond, map, length, ltb, eqb}
use Rattle.lists.specs.Tests.{every}
use Rattle.model.specs.State.{Node, Domain, Allocated, Removed, process_of, with_nodes, set_process, with_words}
use Rattle.model.specs.State.{with_present, is_present}
use Rattle.model.specs.Hazards.{unassigned}
use Rattle.model.specs.Retire.{retired_by, retiring}

-- ---- 15 Leave: process p, and process q takes over

-- a node that p has under way: Allocated or Removed, and its own
abbrev pub under_way : ℕ → Node → Bool
under_way p n = (eqb n.state Allocated || eqb n.state Removed) && eqb n.owner p

-- p has no hazard assigned, no store pending and no node under way
abbrev pub unburdened : Domain → ℕ → Bool
unburdened d p =
    unassigned (process_of d p)
    && (eqb (length (process_of d p).buffer) 0
    && every (λ n. not (under_way p n)) d.nodes)

-- q is another process, and present
abbrev pub takes_over : Domain → ℕ → ℕ → Bool
takes_over d p q = ltb q d.params.processes && (not (eqb q p) && is_present (process_of d q))

abbrev pub owned_by : ℕ → Node → Node
owned_by q n = record { state = n.state; owner = q; guest = n.guest; retired_at = n.retired_at; limbo = n.limbo }

-- a Retired node of p becomes one of q, as if q with local epoch e had retired it at clock t
abbrev pub handed : ℕ → ℕ → ℕ → ℕ → Node → Node
handed p q t e n = cond (retired_by p n) (retiring t e (owned_by q n)) n

abbrev pub hand_over : Domain → ℕ → ℕ → Domain
hand_over d p q = with_nodes d (map (handed p q d.clock (process_of d q).epoch) d.nodes)

-- p's hazards and buffer stay as they are
abbrev pub leave : Domain → ℕ → ℕ → Domain
leave d p q = set_process (hand_over d p q) p (with_present (with_words (process_of d p) 0 0 0) 0)

-- ---- 16 Join

-- at the global epoch
abbrev pub join : Domain → ℕ → Domain
join d p = set_process d p (with_present (with_words (process_of d p) d.epoch (process_of d p).calls (process_of d p).presence) 1)
