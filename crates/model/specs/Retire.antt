-- Retire, the switch to the fallback path, and the scan. Assumes nothing.
use Rattle.std.specs.Prelude.{ℕ, suc, ◌-◌, Bool, true, false, ◌&&◌, cond, List, [], ◌∷◌, ◌++◌, map, leb, ltb, eqb}
use Rattle.lists.specs.Tests.{count, count_from, lacks}
use Rattle.lists.specs.Sweep.{sweep_from}
use Rattle.model.specs.Params.{Params, delay}
use Rattle.model.specs.State.{Pending, Hazard, Process, Node, Domain, Step, Retired, Fallback, node_of, free_node}
use Rattle.model.specs.State.{set_node, with_nodes, with_path, clear_presence}
use Rattle.model.specs.Hazards.{here, latest}

-- what an accepted step answers, and the domain after it
pub record Effect : Type 0 where
  pub value : ℕ
  pub after : Domain

abbrev pub effect : ℕ → Domain → Effect
effect v d = record { value = v; after = d }

-- a Retired node of process p
abbrev pub retired_by : ℕ → Node → Bool
retired_by p n = eqb n.state Retired && eqb n.owner p

-- ---- the scan

-- hazards, the first being h, as their own process sees them: the node of the last pending store to each, or else the visible one
abbrev pub own_from : List Pending → ℕ → List Hazard → List ℕ
own_from b h [] = []
own_from b h (y ∷ ys) = latest b h y.visible ∷ own_from b (suc h) ys

-- the hazards of process x as a scan sees them. own: whether it is the scanning process itself, which knows its pending stores
abbrev pub visible_in : Bool → Process → List ℕ
visible_in true x = own_from x.buffer 0 x.hazards
visible_in false x = map (λ y. y.visible) x.hazards

abbrev pub visible_from : ℕ → ℕ → List Process → List ℕ
visible_from p i [] = []
visible_from p i (x ∷ xs) = visible_in (eqb i p) x ++ visible_from p (suc i) xs

-- all N × K hazards as process p sees them (the board, with p's own mail)
abbrev pub visible_to : Domain → ℕ → List ℕ
visible_to d p = visible_from p 0 d.processes

-- ticks since it was retired
abbrev pub age_of : Domain → Node → ℕ
age_of d n = d.clock - n.retired_at

-- an age of more than the delay
abbrev pub old_enough : Params → ℕ → Bool
old_enough a t = ltb (delay a) t

-- retired more than the delay ago
abbrev pub aged : Domain → Node → Bool
aged d n = old_enough d.params (age_of d n)

-- node c may be freed by a scan of p: its own, in whichever limbo list, aged, and in no hazard as p sees it
abbrev pub due : Domain → ℕ → ℕ → Node → Bool
due d p c n = retired_by p n && (aged d n && lacks (visible_to d p) (suc c))

abbrev pub within : ℕ → ℕ → ℕ → Bool
within a b c = leb a c && ltb c b

-- due, from node a up to node b, that one left out
abbrev pub due_in : Domain → ℕ → ℕ → ℕ → ℕ → Node → Bool
due_in d p a b c n = within a b c && due d p c n

-- what passes is freed, and counted
abbrev pub freeing : Domain → (ℕ → Node → Bool) → Effect
freeing d f = effect (count_from f 0 d.nodes) (with_nodes d (sweep_from free_node f 0 d.nodes))

-- a scan by p of the nodes from a up to b
abbrev pub partial_scan : Domain → ℕ → ℕ → ℕ → Effect
partial_scan d p a b = freeing d (due_in d p a b)

abbrev pub scan : Domain → ℕ → Effect
scan d p = partial_scan d p 0 d.params.nodes

-- ---- 8 Retire

abbrev pub retiring : ℕ → ℕ → Node → Node
retiring t e n = record { state = Retired; owner = n.owner; guest = n.guest; retired_at = t; limbo = e }

abbrev pub marked : Domain → Step → Domain
marked d s = set_node d s.node (retiring d.clock (here d s).epoch (node_of d s.node))

-- process p now has as many Retired nodes as the fallback threshold, or more
abbrev pub overfull : Domain → ℕ → Bool
overfull d p = leb d.params.fallback_threshold (count (retired_by p) d.nodes)

-- the path becomes fallback and presence is forgotten
abbrev pub fall_back : Domain → Domain
fall_back d = clear_presence (with_path d Fallback)

-- on the fallback path a scan; on the fast path, where p is overfull, the switch and then a scan
abbrev pub reclaim : Domain → ℕ → Effect
reclaim d p =
    cond (eqb d.path Fallback) (scan d p)
    (cond (overfull d p) (scan (fall_back d) p)
    (effect 0 d))
