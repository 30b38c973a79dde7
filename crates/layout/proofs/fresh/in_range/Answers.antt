-- `fresh::in_range` meets its contract: the sizes, and four ranges. Assumes nothing.
use mathlib.Core.Bool.{◌&&◌}
use lib.Dec.{leb}
use Rattle.model.specs.Params.{most_lateness}
use Rattle.layout.specs.Ranges.{in_range}
use Rattle.layout.proofs.fresh.in_range.Goals as goal

pub returns : goal.returns
unfolding in_range
returns c =
    λ t. c.sizes_in_range.ensures t
    && (c.up_to.ensures t
    && (c.up_to-2.ensures t
    && (c.up_to-3.ensures t
    && leb c.args.params.lateness most_lateness)))
