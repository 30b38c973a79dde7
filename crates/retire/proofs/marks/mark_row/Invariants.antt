-- `retire::marks::mark_row` meets its contract: the hazards passed are marked, and the others make all of them. Assumes nothing.
use Rattle.layout.specs.Encode.{process_at}
use Rattle.retire.proofs.MarkedTo.{MarkedTo, visible_past}
use Rattle.retire.proofs.marks.mark_row.Given as goal

abbrev pub invariant-loop-h : goal.invariant-loop-h
invariant-loop-h l =
    MarkedTo (visible_past (process_at l.at.k l.row).hazards) 0 l.h l.initial.marks l.marks
