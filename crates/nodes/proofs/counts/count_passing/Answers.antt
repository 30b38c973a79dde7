-- `counts::count_passing` meets its contract. The loop has counted the nodes up to i, whatever the test is of. Assumes nothing.
use mathlib.Core.Path.{ap, ◌∙◌}
use native.Mathlib.Omega.{arith}
use Rattle.std.specs.Int.{from_bool}
use Rattle.std.proofs.Common.{of_calls}
use Rattle.lists.proofs.Turns.{one-most}
use Rattle.nodes.proofs.Counting.{added, turn, ends}
use Rattle.nodes.proofs.counts.count_passing.Goals as goal

pub loop-i-preserved : goal.loop-i-preserved
loop-i-preserved g c =
    let inv = c.loop-i.invariant in
    let less = c.loop-i-test.true in (
      omega (arith, inv.0),
      omega arith,
      omega (arith, inv.2, c.from-found.ensures, added c.passes.result, one-most c.passes.result),
      λ f r h t. turn (inv.3 f r h t) less (c.from-found.ensures ∙ ap from_bool (t _ _ less (search of_calls))),
    )

pub returns : goal.returns
returns g c f r h t = ends (c.loop-i.invariant.3 f r h t) c.loop-i-test.false
