-- The invariant: what holds of every domain that is reached, said of values only. Its six clauses are (E), (B), (T), (H), (G) and (O).
-- Assumes nothing.
use Prim.Native.Nat.{ℕ, suc, ◌+◌, ◌<◌, ◌≤◌}
use mathlib.Core.Bool.{Bool, true}
use mathlib.Core.List.{List}
use mathlib.Core.Path.{◌≡◌}
use mathlib.Core.Logic.{◌≢◌}
use lib.ListN.{length, get_or}
use Rattle.lists.specs.Tests.{All}
use Rattle.model.specs.Params.{delay}
use Rattle.model.specs.State.{Pending, Hazard, Process, Node, Domain, Free, Reachable, Retired, empty_hazard}
use Rattle.model.specs.State.{no_process, free_node, node_of, process_of, hazard_of, is_present, in_epochs, next_epoch}
use Rattle.model.specs.Hazards.{latest}

-- N processes of K hazards each, and M nodes
pub record Shaped (d : Domain) : Type 0 where
  pub processes : length d.processes ≡ d.params.processes
  pub hazards : (p : ℕ) → p < length d.processes → length (process_of d p).hazards ≡ d.params.hazards
  pub nodes : length d.nodes ≡ d.params.nodes

abbrev pub epoch_in : List Process → ℕ → ℕ
epoch_in ps p = (get_or ps p no_process).epoch

abbrev pub hazard_in : List Hazard → ℕ → Hazard
hazard_in hs h = get_or hs h empty_hazard

-- 1 (E): a local epoch is the global one or the one before
abbrev pub Near : ℕ → ℕ → Type 0
Near g e = (e < 3) × (e ≢ next_epoch g)

-- 2 (B), of every hazard: what it shows once flushed is what is assigned to it
abbrev pub Arrives : List Pending → List Hazard → Type 0
Arrives b hs = (h : ℕ) → latest b h (hazard_in hs h).visible ≡ (hazard_in hs h).assigned

-- 3 (T), of every pending store: from no later than now, and no older than the delay
pub record Timely (clock wait : ℕ) (e : Pending) : Type 0 where
  pub past : e.time ≤ clock
  pub recent : clock ≤ e.time + wait

-- of hazard h, validated, of a process with local epoch e and buffer b, to which the Retired node n is assigned;
-- g is the global epoch, and ep gives the local ones
pub record Limbo (g : ℕ) (ep : ℕ → ℕ) (e : ℕ) (b : List Pending) (h : ℕ) (n : Node) : Type 0 where
  -- 4 (H): each pending store to it is from no later than the retirement
  pub before : All (λ w. w.hazard ≡ h → w.time ≤ n.retired_at) b
  -- 5 (G): on the list of the global epoch, the owner has come to that epoch
  pub home : n.limbo ≡ g → ep n.owner ≡ g
  -- 5 (G): on the list of two epochs ago, the process of the hazard has not
  pub behind : n.limbo ≡ next_epoch g → e ≢ g

pub record Held (g : ℕ) (ep : ℕ → ℕ) (e : ℕ) (b : List Pending) (h : ℕ) (n : Node) : Type 0 where
  -- 4 (H): the node is Reachable, Removed or Retired
  pub published : Reachable ≤ n.state
  pub limbo : n.state ≡ Retired → Limbo g ep e b h n

-- of a process, by the fields that it reads: ns are the nodes, c is whether the process counts in epochs
pub record ProcessInv (clock wait g : ℕ) (ep : ℕ → ℕ) (ns : List Node) (e : ℕ) (b : List Pending) (hs : List Hazard) (c : Bool) : Type 0 where
  pub arrives : Arrives b hs
  pub timely : All (Timely clock wait) b
  pub aimed : All (λ w. w.hazard < length hs) b
  pub held : (h n : ℕ) → (hazard_in hs h).validated ≡ 1 → (hazard_in hs h).assigned ≡ suc n → Held g ep e b h (get_or ns n free_node)
  -- a process with a validated hazard counts in epochs
  pub counts : (h n : ℕ) → (hazard_in hs h).validated ≡ 1 → (hazard_in hs h).assigned ≡ suc n → c ≡ true

abbrev pub ProcessWith : Domain → Process → List Pending → Type 0
ProcessWith d x b =
    ProcessInv d.clock (delay d.params) d.epoch (epoch_in d.processes) d.nodes x.epoch b x.hazards (in_epochs x)

abbrev pub ProcessOk : Domain → Process → Type 0
ProcessOk d x = ProcessWith d x x.buffer

-- a node that has an owner: Allocated, Removed or Retired
abbrev pub Owned : Node → Type 0
Owned n = (n.state ≢ Free) × (n.state ≢ Reachable) × (n.state ≤ Retired)

-- 6 (O), of every node: its owner is present, if it has one
abbrev pub OwnerPresent : List Process → Node → Type 0
OwnerPresent ps n = Owned n → is_present (get_or ps n.owner no_process) ≡ true

pub record Inv (d : Domain) : Type 0 where
  pub shape : Shaped d
  pub epoch : d.epoch < 3
  pub near : (p : ℕ) → p < length d.processes → in_epochs (process_of d p) ≡ true → Near d.epoch (process_of d p).epoch
  pub processes : (p : ℕ) → ProcessOk d (process_of d p)
  pub owners : (c : ℕ) → OwnerPresent d.processes (node_of d c)

-- process p has hazard h validated with node n
pub record Claim (d : Domain) (p h n : ℕ) : Type 0 where
  pub validated : (hazard_of (process_of d p) h).validated ≡ 1
  pub assigned : (hazard_of (process_of d p) h).assigned ≡ suc n

-- what that says of a node in n's place
abbrev pub HeldBy : Domain → ℕ → ℕ → Node → Type 0
HeldBy d p h n = Held d.epoch (epoch_in d.processes) (process_of d p).epoch (process_of d p).buffer h n
