-- What 'well formed' means of a domain, as facts: every range and shape of the paper. Assumes nothing.
use Rattle.std.specs.Prelude.{ℕ, ◌<◌, ◌≤◌, ◌≡◌, ◌≢◌, length}
use Rattle.lists.specs.Tests.{All}
use Rattle.model.specs.Params.{Params, InRange, buffer_size, last_clock}
use Rattle.model.specs.State.{Pending, Hazard, Process, Node, Domain, Free, Reachable, Retired}
use Rattle.model.specs.State.{Fallback, last_epoch}

pub record NodeFits (a : Params) (clock : ℕ) (n : Node) : Type 0 where
  pub state : n.state ≤ Retired
  pub owner : n.owner < a.processes
  pub retired_at : n.retired_at ≤ clock
  pub limbo : n.limbo ≤ last_epoch
  -- owner 0 in a Free or Reachable node, guest 0 in a Free one
  pub free : n.state ≡ Free → (n.owner ≡ 0) × (n.guest ≡ 0)
  pub reachable : n.state ≡ Reachable → n.owner ≡ 0
  -- retired_at and limbo 0 unless Retired
  pub unretired : n.state ≢ Retired → (n.retired_at ≡ 0) × (n.limbo ≡ 0)

pub record HazardFits (a : Params) (h : Hazard) : Type 0 where
  pub visible : h.visible ≤ a.nodes
  pub assigned : h.assigned ≤ a.nodes
  pub validated : h.validated ≤ 1
  pub claimed : h.validated ≡ 1 → h.assigned ≢ 0

pub record PendingFits (a : Params) (clock : ℕ) (e : Pending) : Type 0 where
  pub hazard : e.hazard < a.hazards
  pub node : e.node ≤ a.nodes
  pub time : e.time ≤ clock

-- of a process: its words, and its buffer and hazards
pub record WordsFit (a : Params) (x : Process) : Type 0 where
  pub epoch : x.epoch ≤ last_epoch
  pub calls : x.calls < a.quiescence_threshold
  pub presence : x.presence ≤ 1
  pub present : x.present ≤ 1

pub record StoresFit (a : Params) (clock : ℕ) (x : Process) : Type 0 where
  pub room : length x.buffer ≤ buffer_size
  pub width : length x.hazards ≡ a.hazards
  pub buffer : All (PendingFits a clock) x.buffer
  pub hazards : All (HazardFits a) x.hazards

pub record ProcessFits (a : Params) (clock : ℕ) (x : Process) : Type 0 where
  pub words : WordsFit a x
  pub stores : StoresFit a clock x

pub record WellFormed (d : Domain) : Type 0 where
  pub params : InRange d.params
  pub clock : d.clock ≤ last_clock
  pub path : d.path ≤ Fallback
  pub epoch : d.epoch ≤ last_epoch
  pub process_count : length d.processes ≡ d.params.processes
  pub node_count : length d.nodes ≡ d.params.nodes
  pub processes : All (ProcessFits d.params d.clock) d.processes
  pub nodes : All (NodeFits d.params d.clock) d.nodes
