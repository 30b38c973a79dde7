-- `processes::buffer` meets its contract: two halves. Assumes nothing.
use Rattle.wellformed.proofs.ProcessWithin.{buffer-none}
use Rattle.limits.specs.Limits.{none}
use Rattle.wellformed.proofs.processes.buffer.Goals as goal

pub returns : goal.returns
returns c =
    let a = c.args in
    buffer-none a.limits a.stores a.words.now a.at (none a.faults) _ _ c.half-one.ensures c.half.ensures
