-- `pass::go_over` meets its contract. The invariant is what `further` promises, of the first i nodes. Assumes nothing.
use Rattle.nodes.specs.Pass.{GoneOver}
use Rattle.limits.specs.Limits.{none}
use Prim.Native.Nat.{◌≤◌}
use Rattle.nodes.proofs.pass.go_over.Given as goal

abbrev pub invariant-loop-i : goal.invariant-loop-i
invariant-loop-i l = (l.i ≤ l.m) × GoneOver (none l.initial.known.faults) l.counting l.m l.nodes l.limits l.i l.known
