-- `fresh::sizes_in_range` meets its contract: three ranges. Assumes nothing.
use mathlib.Core.Bool.{◌&&◌}
use Rattle.layout.specs.Ranges.{sizes_in_range}
use Rattle.layout.proofs.fresh.sizes_in_range.Goals as goal

pub returns : goal.returns
unfolding sizes_in_range
returns c = λ t. c.up_to.ensures t && (c.up_to-2.ensures t && c.up_to-3.ensures t)
