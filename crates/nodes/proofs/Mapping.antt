-- A loop that changes each node by a function: what holds at its head, after a turn and where it ends. Assumes nothing.
use Prim.Native.Nat.{ℕ, ◌+◌, ◌≤◌, ◌<◌}
use mathlib.Core.List.{List, map}
use mathlib.Core.Path.{◌≡◌, ap, ◌∙◌}
use native.Mathlib.Omega.{arith}
use native.Mathlib.Numerals.{add-one}
use lib.ListN.{get_or, set}
use Rattle.lists.proofs.Mapped.{mapped_to, mapped-turn, mapped-all}
use Rattle.model.specs.State.{Node, free_node}
use Rattle.layout.specs.Nodes.{nodes_in, nodes_words}
use Rattle.nodes.specs.Part.{node_in, Part, with_node}
use Rattle.nodes.proofs.Words.{nodes-length, part-words, part-kept, part-with, nodes-with}

-- the words r₀ are r now: the first i nodes are changed, the others as they were
pub record Mapping (f : Node → Node) (m : ℕ) (r₀ r : List ℕ) (i : ℕ) : Type 0 where
  pub part : Part m r
  pub low : i ≤ m
  pub nodes : nodes_in m r ≡ mapped_to f i (nodes_in m r₀)

module _ {f : Node → Node} {m : ℕ} {r₀ r : List ℕ} {i : ℕ} (h : Mapping f m r₀ r i) where
  pub turn : {r' : List ℕ} {n : Node} → i < m → n ≡ f (node_in m r i) → r' ≡ with_node m r i n → Mapping f m r₀ r' (i + 1)
  turn {n = n} l q e =
      record {
        part = rw e (part-with h.part i n);
        low = omega arith;
        nodes =
            ap (nodes_in m) e
            ∙ (nodes-with h.part i n
            ∙ (ap (λ (x : Node). set (nodes_in m r) i x) q
            ∙ (ap (λ (ns : List Node). set ns i (f (get_or ns i free_node))) h.nodes
            ∙ rw add-one (mapped-turn f (nodes_in m r₀) i free_node (rw (nodes-length m r₀) l)))));
      }

  -- a node that stays as it is, with nothing written
  pub turn-kept : {r' : List ℕ} → i < m → node_in m r i ≡ f (node_in m r i) → r' ≡ r → Mapping f m r₀ r' (i + 1)
  turn-kept l q e = turn l q (e ∙ part-kept h.part i)

  pub ends : m ≤ i → r ≡ nodes_words (map f (nodes_in m r₀))
  ends l = part-words h.part ∙ ap nodes_words (h.nodes ∙ mapped-all f (nodes_in m r₀) i (rw (nodes-length m r₀) l))
