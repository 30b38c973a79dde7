-- `sweeps::free_noted` meets its contract. The loop has freed the nodes at the first places. Assumes nothing.
use native.Mathlib.Numerals.{add-one}
use Rattle.nodes.proofs.Sweeping.{frees-none, frees-more}
use Rattle.nodes.proofs.sweeps.free_noted.Goals as goal

pub loop-c-init : goal.loop-c-init
loop-c-init c = frees-none c.requires.0

pub loop-c-preserved : goal.loop-c-preserved
loop-c-preserved c = rw add-one (frees-more c.loop-c.invariant c.loop-c-test.true c.from.ensures c.free.ensures)
