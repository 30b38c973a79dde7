-- The model's record or number for each value of the code. Assumes nothing.
use Rattle.std.specs.Prelude.{ℕ}
use Rattle.model.specs.Params as M
use Rattle.model.specs.State as S
use Rattle.layout.specs.Shape as L
use Rattle.layout.specs.declared.Params.{Params}
use Rattle.layout.specs.declared.Lead.{Lead}
use Rattle.layout.specs.declared.Hazard.{Hazard}
use Rattle.layout.specs.declared.Node.{Node}
use Rattle.layout.specs.declared.Step.{Step}
use Rattle.layout.specs.declared.State.{State}
use Rattle.layout.specs.declared.State.TheVariants.{Free, Allocated, Reachable, Removed, Retired}
use Rattle.layout.specs.declared.Path.{Path}
use Rattle.layout.specs.declared.Path.TheVariants.{Fast, Fallback}

abbrev pub params_value : Params → M.Params
params_value a =
    record {
      processes = a.processes;
      hazards = a.hazards;
      nodes = a.nodes;
      visibility_bound = a.visibility;
      quiescence_threshold = a.quiescence;
      fallback_threshold = a.fallback;
      lateness = a.lateness;
    }

abbrev pub lead_value : Lead → L.Lead
lead_value l = record { epoch = l.epoch; calls = l.calls; presence = l.presence; stores = l.stores; present = l.present }

abbrev pub hazard_value : Hazard → S.Hazard
hazard_value h = record { visible = h.visible; assigned = h.assigned; validated = h.validated }

abbrev pub node_value : Node → S.Node
node_value n = record { state = n.state; owner = n.owner; guest = n.guest; retired_at = n.retired; limbo = n.limbo }

abbrev pub step_value : Step → S.Step
step_value s = record { kind = s.kind; process = s.process.0; hazard = s.hazard.0; node = s.node.0; guest = s.guest }

-- the number of a state, and of a path
abbrev pub state_number : State → ℕ
state_number Free = S.Free
state_number Allocated = S.Allocated
state_number Reachable = S.Reachable
state_number Removed = S.Removed
state_number Retired = S.Retired

abbrev pub path_number : Path → ℕ
path_number Fast = S.Fast
path_number Fallback = S.Fallback
