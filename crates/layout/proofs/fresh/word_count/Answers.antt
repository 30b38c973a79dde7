-- `fresh::word_count` meets its contract: in the ranges the count fits a word. Assumes nothing.
use native.Mathlib.Omega.{arith}
use Rattle.layout.proofs.Ranges.{sizes_in_range_lem}
use Rattle.layout.proofs.fresh.word_count.Goals as goal

pub process_start-requires : goal.process_start-requires
process_start-requires c = let f = sizes_in_range_lem _ _ _ c.requires in (f.hazards.1, f.processes.1)

pub nodes_width-requires : goal.nodes_width-requires
nodes_width-requires c = (sizes_in_range_lem _ _ _ c.requires).nodes.1

pub overflow_cast-result : goal.overflow_cast-result
overflow_cast-result c = omega (arith, sizes_in_range_lem _ _ _ c.requires, c.process_start.ensures.1, c.nodes_width.ensures)
