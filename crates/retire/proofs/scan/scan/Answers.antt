-- `retire::scan::scan` meets its contract: what is not marked is seen in no hazard. Assumes nothing.
use Rattle.retire.proofs.Unmarked.{scanned}
use Rattle.retire.proofs.scan.scan.Goals as goal

pub returns : goal.returns
returns c =
    let a = c.args in
    let marks = c.mark_visible.ensures in
    scanned c.requires.0 a.p.0 _ marks a.from a.to c.sweep_due.ensures
