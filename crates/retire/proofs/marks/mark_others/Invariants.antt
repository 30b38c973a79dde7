-- `retire::marks::mark_others` meets its contract: the processes passed are marked, and the others make all of them. Assumes nothing.
use Rattle.layout.specs.Encode.{decode}
use Rattle.retire.specs.Marks.{shown_from}
use Rattle.retire.proofs.MarkedTo.{MarkedTo}
use Rattle.retire.proofs.marks.mark_others.Given as goal

abbrev pub invariant-loop-q : goal.invariant-loop-q
invariant-loop-q l =
    MarkedTo (λ i. shown_from (decode l.words).processes i l.to) l.from l.q l.initial.marks l.marks
