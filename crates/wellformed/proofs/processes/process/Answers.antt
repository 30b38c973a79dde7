-- `processes::process` meets its contract: three looks at its words, each of which adds its faults. Assumes nothing.
use Rattle.wellformed.proofs.ProcessWithin.{process-none}
use Rattle.limits.specs.Limits.{none}
use Rattle.std.proofs.Common.{refl}
use Rattle.wellformed.proofs.processes.process.Goals as goal

pub returns : goal.returns
returns c =
    let a = c.args in
    process-none a.limits a.k a.words.now a.at _ _ (none a.faults) _ _ _ refl refl c.lead-one.ensures
    c.hazards-two.ensures c.buffer.ensures
