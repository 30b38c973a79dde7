-- `handing::hand_over` meets its contract. The first i nodes are handed over, each that is Retired by p, and the others are as they were.
-- Assumes nothing.
use Rattle.model.specs.Leave.{handed}
use Rattle.nodes.proofs.Mapping.{Mapping}
use Rattle.nodes.proofs.handing.hand_over.Given as goal

abbrev pub invariant-loop-i : goal.invariant-loop-i
invariant-loop-i l = Mapping (handed l.p.0 l.q.0 l.time l.epoch) l.m l.initial.nodes l.nodes l.i
