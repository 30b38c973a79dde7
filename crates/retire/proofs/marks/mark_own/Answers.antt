-- `retire::marks::mark_own` meets its contract: the stretch lent holds the process. Assumes nothing.
use mathlib.Core.Bool.{true}
use Rattle.domain.proofs.Lent.{lent-stretch}
use Rattle.retire.proofs.Unmarked.{room, lent-small, lent-marked, lent-few}
use Rattle.retire.proofs.marks.mark_own.Goals as goal

pub mark_seen-requires : goal.mark_seen-requires
mark_seen-requires c =
    let h = c.requires in
    let at = c.place_of-at.ensures in
    let few = lent-few h.0 at in
    (lent-stretch h.0 h.1 at, lent-small h.0 true h.1 at, room _ few)

pub returns : goal.returns
returns c =
    let at = c.place_of-at.ensures in
    lent-marked c.requires.0 true c.requires.1 at c.args.marks.now c.mark_seen.ensures.marks_after
