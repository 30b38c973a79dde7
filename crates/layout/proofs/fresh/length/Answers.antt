-- `fresh::length` meets its contract: the test decides between the count and 0. Assumes nothing.
use mathlib.Core.Path.{sym, ◌∙◌}
use Rattle.layout.specs.Ranges.{length_for}
use Rattle.layout.proofs.fresh.length.Goals as goal

pub returns-then-sizes_in_range : goal.returns-then-sizes_in_range
unfolding length_for
returns-then-sizes_in_range c = rw (sym c.sizes_in_range.ensures ∙ c.if-sizes_in_range.true) c.word_count.ensures

pub returns-else-sizes_in_range : goal.returns-else-sizes_in_range
unfolding length_for
returns-else-sizes_in_range c = rw (sym c.sizes_in_range.ensures ∙ c.if-sizes_in_range.false)
