-- `sweeps::sweep` meets its contract. The loop has noted those of the nodes before i that pass, whatever the test is of. Assumes nothing.
use mathlib.Core.Path.{refl}
use Prim.Native.Nat.{◌<◌}
use native.Mathlib.Numerals.{add-one}
use native.Mathlib.Omega.{arith}
use Rattle.nodes.proofs.Sweeping.{noted-none, noted-more, notes-more, notes-start, notes-rest}
use Rattle.nodes.proofs.sweeps.sweep.Goals as goal

pub loop-i-init : goal.loop-i-init
loop-i-init g c =
    let h = c.requires.range in
    (omega arith, omega (arith, h.1), noted-none h.0 refl (omega arith), λ f only t. notes-start c.args.to only (omega arith))

pub loop-i-preserved : goal.loop-i-preserved
loop-i-preserved g c =
    let inv = c.loop-i.invariant in
    let less = c.loop-i-test.true in
    let below : c.loop-i.i < c.args.m = omega (arith, less, c.requires.range.2) in (
      omega (arith, inv.0),
      omega arith,
      rw (add-one, c.note-count.ensures.0, c.note-count.ensures.1) (noted-more inv.2 below c.passes-passed.result),
      λ f only t. rw (add-one, c.note-count.ensures.0, c.note-count.ensures.1)
          (notes-more (inv.3 f only t) below inv.2 (t _ _ _ refl inv.0 less c.passes-passed.ensures)),
    )

pub returns : goal.returns
returns g c f only t =
    let inv = c.loop-i.invariant in
    notes-rest {r' = c.free_noted.new.nodes} c.args.from only (inv.3 f only t) inv.2.low c.loop-i-test.false (rw c.wide.ensures.0 at c.free_noted.ensures)
