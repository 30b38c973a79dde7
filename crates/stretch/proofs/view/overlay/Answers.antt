-- `view::overlay` meets its contract. The invariant: the stores from e on make what all make (`Overlaying`). Assumes nothing.
use Prim.Native.Nat.{◌+◌, ◌*◌}
use mathlib.Core.Path.{◌∙◌}
use lib.ListN.{length-set}
use Rattle.stretch.proofs.Viewed.{overlay-turn}
use Rattle.stretch.proofs.Stores.{target_at, stored_at, aims}
use native.Mathlib.Omega.{arith}
use Rattle.stretch.proofs.view.overlay.Goals as goal

pub bounds-nodes-h : goal.bounds-nodes-h
bounds-nodes-h c =
    let h = c.requires.0 in
    let e = c.loop-e.e in
    let aim = aims _ _ h.words e (omega arith) (c.args.at.stores + 3 * e + 0) (omega (arith, h.stores)) in
    omega (arith, c.wide-h.ensures.0, aim)

pub loop-e-preserved : goal.loop-e-preserved
loop-e-preserved c =
    let h = c.requires.0 in
    let inv = c.loop-e.invariant in
    let e = c.loop-e.e in
    let from = c.args.at.stores + 3 * e in
    let target = c.wide-h.ensures.0 ∙ target_at _ _ h.words e (omega arith) (from + 0) (omega (arith, h.stores)) in
    let stored = stored_at _ _ h.words e (omega arith) (from + 1) (omega (arith, h.stores)) in
    (inv.0, simp length-set inv.1, overlay-turn inv.2 (omega arith) _ _ target stored)
