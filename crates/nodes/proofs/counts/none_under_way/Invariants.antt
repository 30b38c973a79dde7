-- `counts::none_under_way` meets its contract. The flag says whether none of the first i nodes is under way. Assumes nothing.
use mathlib.Core.Bool.{not}
use Rattle.model.specs.Leave.{under_way}
use Rattle.nodes.proofs.Passing.{Passing}
use Rattle.nodes.proofs.counts.none_under_way.Given as goal

abbrev pub invariant-loop-i : goal.invariant-loop-i
invariant-loop-i l = Passing (λ n. not (under_way l.p.0 n)) l.m l.nodes l.i l.ok
