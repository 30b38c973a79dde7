-- `view::visible` meets its contract. The invariant: the first h nodes are there (`Shown`). Assumes nothing.
use Prim.Native.Nat.{◌+◌, ◌*◌}
use mathlib.Core.Path.{◌≡◌}
use lib.ListN.{length-set}
use Rattle.layout.specs.Shape.{hazard_place}
use Rattle.layout.specs.Encode.{shape}
use Rattle.stretch.proofs.Viewed.{shown-more, shown-all}
use native.Mathlib.Omega.{arith}
use Rattle.stretch.proofs.view.visible.Goals as goal

pub loop-h-preserved : goal.loop-h-preserved
loop-h-preserved c =
    let at = c.args.at in
    let pre = c.requires.0 in
    let h = c.loop-h.h in
    let inv = c.loop-h.invariant in
    let place : at.hazards + 3 * h + 0 ≡ hazard_place shape h = omega (arith, pre.hazards) in
    let more = shown-more _ _ pre.words h c.loop-h.nodes inv.1 (omega arith) inv.0 (at.hazards + 3 * h + 0) place in
    (simp length-set inv.0, more)

pub returns : goal.returns
returns c =
    let inv = c.loop-h.invariant in
    shown-all _ _ c.requires.0.words _ (λ j l. inv.1 j (omega arith)) inv.0
