-- A loop over the nodes that keeps whether all so far pass a test: what holds at its head and where it ends.
-- Assumes nothing.
use Prim.Native.Nat.{ℕ, ◌≤◌}
use mathlib.Core.Bool.{Bool}
use mathlib.Core.List.{List}
use mathlib.Core.Path.{◌≡◌}
use native.Mathlib.Omega.{arith}
use Rattle.lists.specs.Tests.{every}
use Rattle.lists.proofs.Tested.{Tested, tested-all}
use Rattle.model.specs.State.{Node}
use Rattle.layout.specs.Nodes.{nodes_in}
use Rattle.nodes.specs.Part.{Part}
use Rattle.nodes.proofs.Words.{nodes-length}

-- the first i nodes are tested, and ok says whether all of those pass
pub record Passing (f : Node → Bool) (m : ℕ) (r : List ℕ) (i : ℕ) (ok : Bool) : Type 0 where
  pub part : Part m r
  pub low : i ≤ m
  pub tested : Tested f (nodes_in m r) i ok

module _ {f : Node → Bool} {m : ℕ} {r : List ℕ} {i : ℕ} {ok : Bool} (h : Passing f m r i ok) where
  pub ends : m ≤ i → ok ≡ every f (nodes_in m r)
  ends l = tested-all h.tested (omega (arith, nodes-length m r, h.low))
