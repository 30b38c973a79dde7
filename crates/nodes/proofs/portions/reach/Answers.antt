-- `portions::reach` meets its contract. The loop has gone over the nodes up to i. Assumes nothing.
use Rattle.std.specs.Int.{from_bool}
use mathlib.Core.Path.{ap, ◌∙◌}
use Rattle.nodes.proofs.Reaching.{turn, stops, ends}
use Rattle.nodes.proofs.portions.reach.Goals as goal

pub returns-then-examined-limit : goal.returns-then-examined-limit
returns-then-examined-limit c = stops c.loop-i.invariant c.if-examined-limit.true

pub loop-i-preserved : goal.loop-i-preserved
loop-i-preserved c =
    turn c.loop-i.invariant c.loop-i-test.true c.if-examined-limit.false
    (c.from-examined.ensures ∙ ap from_bool c.retired_by.ensures)

pub returns : goal.returns
returns c = ends c.loop-i.invariant c.loop-i-test.false
