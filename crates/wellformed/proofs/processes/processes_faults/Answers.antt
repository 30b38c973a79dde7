-- `processes::processes_faults` meets its contract. The invariant: the first p processes fit. Assumes nothing.
use Rattle.wellformed.proofs.ProcessWithin.{process-turn}
use Rattle.limits.proofs.Lanes.{nothing-amiss}
use Rattle.lists.proofs.Upto.{all_none}
use Rattle.std.proofs.Common.{refl, ◌∙◌}
use Rattle.wellformed.proofs.processes.processes_faults.Goals as goal

pub loop-p-init : goal.loop-p-init
loop-p-init c = nothing-amiss ∙ all_none _

pub loop-p-preserved : goal.loop-p-preserved
loop-p-preserved c =
    process-turn c.args.words.now c.requires _ (record { calls = refl; hazard = refl; nodes = refl; clock = refl }) _ _ c.loop-p.p _ _ c.wide.ensures.0
    c.process_start-at.ensures.0 c.loop-p.invariant c.process-faults.ensures
