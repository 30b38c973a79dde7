-- `retire::marks::mark_process` meets its contract: the stretch lent holds the process. Assumes nothing.
use mathlib.Core.Bool.{false}
use Rattle.domain.proofs.Lent.{lent-stretch}
use Rattle.retire.proofs.Unmarked.{lent-small, lent-marked}
use Rattle.retire.proofs.marks.mark_process.Goals as goal

pub mark_row-requires : goal.mark_row-requires
mark_row-requires c =
    let h = c.requires in
    (lent-stretch h.0 h.1 c.place_of-at.ensures, lent-small h.0 false h.1 c.place_of-at.ensures)

pub returns : goal.returns
returns c =
    let at = c.place_of-at.ensures in
    lent-marked c.requires.0 false c.requires.1 at c.args.marks.now c.mark_row.ensures
