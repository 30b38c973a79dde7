-- The nodes' part of a domain's words, which starts where the nodes start and goes to the end: a node in it. Assumes nothing.
use Rattle.std.specs.Prelude.{ℕ, ◌≤◌, List, ◌≡◌, length, get_or, set}
use Rattle.model.specs.Params.{most_nodes}
use Rattle.model.specs.State.{Node, free_node}
use Rattle.layout.specs.Nodes.{nodes_in, nodes_words}
use Rattle.layout.specs.Encode.{shape}

-- node c of m
abbrev pub node_in : ℕ → List ℕ → ℕ → Node
node_in m r c = get_or (nodes_in m r) c free_node

-- r are the words of m nodes
pub record Part (m : ℕ) (r : List ℕ) : Type 0 where
  pub few : m ≤ most_nodes
  pub long : length r ≡ shape.nodes.width m

-- r with n for node c
abbrev pub with_node : ℕ → List ℕ → ℕ → Node → List ℕ
with_node m r c n = nodes_words (set (nodes_in m r) c n)

-- a node in state v
abbrev pub in_state : ℕ → Node → Node
in_state v n = record { state = v; owner = n.owner; guest = n.guest; retired_at = n.retired_at; limbo = n.limbo }
