-- `sweeps::free_noted` meets its contract. The loop has freed the nodes at the first places. Assumes nothing.
use Rattle.nodes.proofs.Sweeping.{Freeing}
use Rattle.nodes.proofs.sweeps.free_noted.Given as goal

abbrev pub invariant-loop-c : goal.invariant-loop-c
invariant-loop-c l = Freeing l.m l.noted l.initial.nodes l.nodes l.c-index
