-- `counts::count_passing` meets its contract. The loop has counted the nodes up to i, whatever the test is of. Assumes nothing.
use Prim.Native.Nat.{ℕ, ◌≤◌, ◌<◌}
use mathlib.Core.Bool.{Bool}
use mathlib.Core.List.{List}
use mathlib.Core.Path.{◌≡◌}
use Rattle.model.specs.State.{Node}
use Rattle.nodes.specs.Part.{node_in, Part}
use Rattle.nodes.proofs.Counting.{Counting}
use Rattle.nodes.proofs.counts.count_passing.Given as goal

abbrev pub invariant-loop-i : goal.invariant-loop-i
invariant-loop-i g l =
    (l.from ≤ l.i) × (l.i ≤ l.m) × (l.found ≤ l.i)
    × ((f : Node → Bool) (r : List ℕ) → Part l.m r → ((c : _) (b : Bool) → c.0 < l.m → goal.F-post g l.passes c b → b ≡ f (node_in l.m r c.0))
    → Counting f l.m r l.from l.found l.i)
