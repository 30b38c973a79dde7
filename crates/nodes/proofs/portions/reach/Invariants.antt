-- `portions::reach` meets its contract. The loop has gone over the nodes up to i. Assumes nothing.
use Rattle.model.specs.Retire.{retired_by}
use Rattle.nodes.proofs.Reaching.{Reaching}
use Rattle.nodes.proofs.portions.reach.Given as goal

abbrev pub invariant-loop-i : goal.invariant-loop-i
invariant-loop-i l = Reaching (retired_by l.p.0) l.m l.nodes l.limit l.from l.examined l.i
