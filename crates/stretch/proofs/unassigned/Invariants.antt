-- `stretch::unassigned` meets its contract. The invariant: ok says whether the first h hazards are unassigned.
-- Assumes nothing.
use lib.Dec.{eqb}
use Rattle.lists.proofs.Tested.{Tested}
use Rattle.layout.specs.Encode.{process_at}
use Rattle.stretch.proofs.unassigned.Given as goal

abbrev pub invariant-loop-h : goal.invariant-loop-h
invariant-loop-h l =
    Tested (λ y. eqb y.assigned 0) (process_at l.at.k l.row).hazards l.h l.ok
