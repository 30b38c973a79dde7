-- What is known after a part of a pass over the nodes, and after the whole of it. Assumes nothing.
use Rattle.std.specs.Prelude.{ℕ, ◌+◌, Bool, cond, ◌&&◌, List, [], ◌∷◌, ◌≡◌, take, eqb, Option, Some, None, is_some}
use Rattle.lists.specs.Tests.{count}
use Rattle.model.specs.State.{Node, Reachable}
use Rattle.layout.specs.Nodes.{nodes_in}
use Rattle.limits.specs.Limits.{none}
use Rattle.nodes.specs.NodeLimits.{NodesFit}
use Rattle.nodes.specs.declared.pass.Known.{Known}

-- a node that is counted: a Reachable one, where they are counted at all (b)
abbrev pub is_counted : Bool → Node → Bool
is_counted b n = b && eqb n.state Reachable

-- by state, what a node counts for
abbrev pub state_weights : List ℕ
state_weights = 0 ∷ 0 ∷ 1 ∷ 0 ∷ 0 ∷ []

-- of the first i of m nodes: whether all of them fit, and nothing was amiss before (x); and how many are counted
pub record GoneOver (x b : Bool) (m : ℕ) (r limits : List ℕ) (i : ℕ) (k : Known) : Type 0 where
  pub fits : NodesFit x i r limits (none k.faults)
  pub counted : k.reachable ≡ count (is_counted b) (take i (nodes_in m r))

-- from what is known of the first i nodes to what is known of the first i + 1, whatever was before
abbrev pub Further : Bool → ℕ → List ℕ → List ℕ → ℕ → Known → Known → Type 0
Further b m r limits i k k' = (x : Bool) → GoneOver x b m r limits i k → GoneOver x b m r limits (i + 1) k'

-- of all m nodes: whether there is a count says the same, and it is that of all nodes
pub record Finds (x b : Bool) (m : ℕ) (r limits : List ℕ) (found : Option ℕ) : Type 0 where
  pub fits : NodesFit x m r limits (is_some found)
  pub counted : found ≡ cond (is_some found) (Some (count (is_counted b) (nodes_in m r))) None
