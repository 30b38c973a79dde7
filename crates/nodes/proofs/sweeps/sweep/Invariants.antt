-- `sweeps::sweep` meets its contract. The loop has noted those of the nodes before i that pass, whatever the test is of. Assumes nothing.
use Prim.Native.Nat.{ℕ, ◌≤◌, ◌<◌}
use mathlib.Core.Bool.{Bool}
use mathlib.Core.Path.{◌≡◌}
use Rattle.model.specs.State.{Node}
use Rattle.nodes.specs.Part.{node_in}
use Rattle.nodes.specs.Sweeps.{OnlyBetween}
use Rattle.nodes.proofs.Sweeping.{Noted, Noting}
use Rattle.nodes.proofs.sweeps.sweep.Given as goal

abbrev pub invariant-loop-i : goal.invariant-loop-i
invariant-loop-i g l =
    (l.from ≤ l.i) × (l.i ≤ l.to) × Noted l.m l.nodes l.places l.count l.i
    × ((f : ℕ → Node → Bool) → OnlyBetween l.from l.to l.m f
    → ((x : _) (c : _) (b : Bool) → x.now ≡ l.nodes → l.from ≤ c.0 → c.0 < l.to
    → goal.F-post g l.passes x c b → b ≡ f c.0 (node_in l.m l.nodes c.0))
    → Noting f l.m l.nodes l.places l.count l.i)
