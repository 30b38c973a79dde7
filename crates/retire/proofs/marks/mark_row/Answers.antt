-- `retire::marks::mark_row` meets its contract: the hazards passed are marked, and the others make all of them. Assumes nothing.
use mathlib.Core.List.{[], ◌∷◌, map}
use mathlib.Core.Bool.{true}
use mathlib.Core.Path.{refl, ap, ◌∙◌}
use lib.ListN.{get_or, set}
use Rattle.model.specs.State.{empty_hazard}
use Rattle.layout.specs.Encode.{process_at}
use Rattle.stretch.proofs.Words.{hazards-length}
use Rattle.retire.specs.Marks.{marking}
use Rattle.retire.proofs.MarkedTo.{turn, ends, left-hazards, left-none}
use native.Mathlib.Omega.{arith}
use Rattle.retire.proofs.marks.mark_row.Goals as goal

pub loop-h-preserved : goal.loop-h-preserved
unfolding marking
loop-h-preserved c =
    let a = c.args in
    let hs = (process_at a.at.k a.row.now).hazards in
    let inv = c.loop-h.invariant in
    let few = hazards-length a.at.k a.row.now in
    let marked = c.mark.ensures ∙ ap (λ y. set c.loop-h.marks y.visible true) c.hazard-hazard.ensures in
    let h = c.loop-h.h in
    turn ((get_or hs h empty_hazard).visible ∷ []) inv (left-hazards hs h (omega (arith, few))) marked

pub returns : goal.returns
returns c =
    let a = c.args in
    let hs = (process_at a.at.k a.row.now).hazards in
    let few = hazards-length a.at.k a.row.now in
    ends c.loop-h.invariant (left-none (map (λ y. y.visible)) hs c.loop-h.h refl (omega (arith, few)))
