-- A domain (the paper's desk) as records: its processes (workers), their hazards (slots) and store buffers (mail), and its nodes (cards).
-- Assumes nothing.
use Rattle.std.specs.Prelude.{ℕ, ◌+◌, ◌%◌, Bool, List, [], map, get_or, set, eqb}
use Rattle.model.specs.Params.{Params}

-- a store into a hazard that other processes do not see yet (mail entry). A node is stored as its number + 1, and 0 for none
pub record Pending : Type 0 where
  pub hazard : ℕ
  pub node : ℕ
  pub time : ℕ

pub record Hazard : Type 0 where
  -- the node that others see in it (seen card)
  pub visible : ℕ
  -- the node that its process has put into it (armed card)
  pub assigned : ℕ
  -- 1 after a check found the assigned node reachable (claim)
  pub validated : ℕ

pub record Process : Type 0 where
  -- local epoch
  pub epoch : ℕ
  -- manage calls, modulo the quiescence threshold (call count)
  pub calls : ℕ
  -- 1 after a manage call that acted (on the fallback path: checked in)
  pub presence : ℕ
  -- 1 while it takes part, 0 from its leave to its join
  pub present : ℕ
  -- the store buffer, oldest store first (mail)
  pub buffer : List Pending
  pub hazards : List Hazard

-- the five states of a node
abbrev pub Free : ℕ
Free = 0

abbrev pub Allocated : ℕ
Allocated = 1

abbrev pub Reachable : ℕ
Reachable = 2

abbrev pub Removed : ℕ
Removed = 3

abbrev pub Retired : ℕ
Retired = 4

pub record Node : Type 0 where
  pub state : ℕ
  pub owner : ℕ
  pub guest : ℕ
  -- the clock when it was retired (stamp)
  pub retired_at : ℕ
  -- the limbo list it was put on: the owner's local epoch when it was retired (list)
  pub limbo : ℕ

-- the two paths
abbrev pub Fast : ℕ
Fast = 0

abbrev pub Fallback : ℕ
Fallback = 1

pub record Domain : Type 0 where
  pub params : Params
  pub clock : ℕ
  pub path : ℕ
  -- global epoch
  pub epoch : ℕ
  pub processes : List Process
  pub nodes : List Node

-- the five numbers of a step; for a node its number, counted from 0
pub record Step : Type 0 where
  pub kind : ℕ
  pub process : ℕ
  pub hazard : ℕ
  pub node : ℕ
  pub guest : ℕ

-- ---- looking up: a place past the end reads as zeros

abbrev pub free_node : Node
free_node = record { state = Free; owner = 0; guest = 0; retired_at = 0; limbo = 0 }

abbrev pub empty_hazard : Hazard
empty_hazard = record { visible = 0; assigned = 0; validated = 0 }

abbrev pub no_process : Process
no_process = record { epoch = 0; calls = 0; presence = 0; present = 0; buffer = []; hazards = [] }

abbrev pub node_of : Domain → ℕ → Node
node_of d c = get_or d.nodes c free_node

abbrev pub process_of : Domain → ℕ → Process
process_of d p = get_or d.processes p no_process

abbrev pub hazard_of : Process → ℕ → Hazard
hazard_of x h = get_or x.hazards h empty_hazard

-- ---- putting back

abbrev pub with_nodes : Domain → List Node → Domain
with_nodes d ns =
    record { params = d.params; clock = d.clock; path = d.path; epoch = d.epoch; processes = d.processes; nodes = ns }

abbrev pub with_processes : Domain → List Process → Domain
with_processes d ps =
    record { params = d.params; clock = d.clock; path = d.path; epoch = d.epoch; processes = ps; nodes = d.nodes }

abbrev pub with_path : Domain → ℕ → Domain
with_path d v =
    record { params = d.params; clock = d.clock; path = v; epoch = d.epoch; processes = d.processes; nodes = d.nodes }

abbrev pub with_epoch : Domain → ℕ → Domain
with_epoch d v =
    record { params = d.params; clock = d.clock; path = d.path; epoch = v; processes = d.processes; nodes = d.nodes }

abbrev pub with_params : Domain → Params → Domain
with_params d a =
    record { params = a; clock = d.clock; path = d.path; epoch = d.epoch; processes = d.processes; nodes = d.nodes }

abbrev pub with_clock : Domain → ℕ → Domain
with_clock d v =
    record { params = d.params; clock = v; path = d.path; epoch = d.epoch; processes = d.processes; nodes = d.nodes }

abbrev pub set_node : Domain → ℕ → Node → Domain
set_node d c n = with_nodes d (set d.nodes c n)

abbrev pub set_process : Domain → ℕ → Process → Domain
set_process d p x = with_processes d (set d.processes p x)

-- a process with another buffer and hazards; with other words; present or absent
abbrev pub with_stores : Process → List Pending → List Hazard → Process
with_stores x b hs =
    record { epoch = x.epoch; calls = x.calls; presence = x.presence; present = x.present; buffer = b; hazards = hs }

abbrev pub with_words : Process → ℕ → ℕ → ℕ → Process
with_words x e k v =
    record { epoch = e; calls = k; presence = v; present = x.present; buffer = x.buffer; hazards = x.hazards }

abbrev pub with_present : Process → ℕ → Process
with_present x t =
    record { epoch = x.epoch; calls = x.calls; presence = x.presence; present = t; buffer = x.buffer; hazards = x.hazards }

abbrev pub set_hazard : Process → ℕ → Hazard → List Hazard
set_hazard x h y = set x.hazards h y

-- ---- who takes part: a process that is present

abbrev pub is_present : Process → Bool
is_present x = eqb x.present 1

-- who may take a step
abbrev pub acts : Process → Bool
acts x = is_present x

-- whose presence word is looked at
abbrev pub in_presence : Process → Bool
in_presence x = is_present x

-- whose local epoch is looked at
abbrev pub in_epochs : Process → Bool
in_epochs x = is_present x

-- epochs go round: how many there are, and the last one
abbrev pub epoch_count : ℕ
epoch_count = 3

abbrev pub last_epoch : ℕ
last_epoch = 2

-- the epoch after e
abbrev pub next_epoch : ℕ → ℕ
next_epoch e = (e + 1) % epoch_count

-- all presence words 0, of absent processes too
abbrev pub without_presence : Process → Process
without_presence x = with_words x x.epoch x.calls 0

abbrev pub clear_presence : Domain → Domain
clear_presence d = with_processes d (map without_presence d.processes)
