-- `portion::scan` meets its contract: where it ends, those from there on counted, and the nodes up to there scanned, or none is met. Assumes nothing.
use Rattle.retire.proofs.Portioned.{none-met}
use Rattle.retire.proofs.portion.scan.Goals as goal

pub returns-then-reached-eq0 : goal.returns-then-reached-eq0
returns-then-reached-eq0 c =
    let a = c.args in
    none-met c.requires.0 a.p.0 a.c.0 a.limit
    c.reach-reached.ensures c.if-reached-eq0.true c.retired_count-left.ensures
