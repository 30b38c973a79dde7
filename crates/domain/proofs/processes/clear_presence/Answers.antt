-- `processes::clear_presence` meets its contract: the presence words of the processes passed are 0, the others as they were. Assumes nothing.
use Rattle.domain.proofs.Clearing.{starts, turn}
use Rattle.domain.proofs.processes.clear_presence.Goals as goal

pub loop-p-init : goal.loop-p-init
loop-p-init c = starts c.requires c.bounds-n.ensures

pub loop-p-preserved : goal.loop-p-preserved
loop-p-preserved c =
    turn c.loop-p.invariant c.loop-p-test.true c.set_lead.auto.words c.lead-lead.ensures c.set_lead.ensures
