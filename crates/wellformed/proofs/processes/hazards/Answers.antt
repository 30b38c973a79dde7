-- `processes::hazards` meets its contract. The invariant: what the first h hazards leave. Assumes nothing.
use Rattle.wellformed.proofs.ProcessWithin.{hazards-start, hazards-turn}
use Rattle.limits.specs.Limits.{none}
use Rattle.std.proofs.Common.{arith}
use Rattle.wellformed.proofs.processes.hazards.Goals as goal

pub loop-h-init : goal.loop-h-init
loop-h-init c = let a = c.args in (omega arith, hazards-start a.words.now a.m a.before (none a.faults))

pub loop-h-preserved : goal.loop-h-preserved
loop-h-preserved c =
    let a = c.args in
    (omega arith, hazards-turn a.words.now a.m a.before _ (none a.faults) _ _ c.loop-h.invariant.1 c.hazard-faults.ensures)
