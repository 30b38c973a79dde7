-- `processes::half` meets its contract: three pieces are four places. Assumes nothing.
use Rattle.wellformed.proofs.ProcessWithin.{half-none}
use Rattle.limits.specs.Limits.{none}
use Rattle.wellformed.proofs.processes.half.Goals as goal

pub returns : goal.returns
returns c =
    let a = c.args in
    half-none a.limits a.stores a.words.now a.at a.e _ _ _ _ (none a.faults) _ _ _ c.cuts_of-a.ensures
    c.cuts_of-b.ensures c.cuts_of-c.ensures c.cuts_of-d.ensures c.piece.ensures
    c.piece-2.ensures c.piece-3.ensures
