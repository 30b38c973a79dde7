-- A loop that counts the nodes that pass a test, from a place on: what holds at its head, after a turn and where it ends.
-- Assumes nothing.
use Prim.Native.Nat.{ℕ, suc, ◌+◌, ◌-◌, ◌≤◌, ◌<◌}
use mathlib.Core.Bool.{Bool, true, false, cond}
use mathlib.Core.List.{List, [], ◌∷◌}
use mathlib.Core.Path.{◌≡◌, refl, ap, ◌∙◌}
use native.Mathlib.Omega.{arith}
use native.Mathlib.Numerals.{add-one}
use lib.ListN.{length, take, drop, drop_of_length-le}
use lib.Seq.{drop-cons, drop-drop}
use Rattle.std.specs.Int.{from_bool}
use Rattle.lists.specs.Tests.{count}
use Rattle.lists.proofs.Turns.{one-most}
use Rattle.lists.proofs.Counts.{count-split}
use Rattle.model.specs.State.{Node, free_node}
use Rattle.layout.specs.Nodes.{nodes_in}
use Rattle.nodes.specs.Part.{node_in, Part}
use Rattle.nodes.proofs.Words.{nodes-length}

-- what a test adds
pub added : (b : Bool) → from_bool b ≡ cond b 1 0
added true = refl
added false = refl

-- of the nodes from one up to i so many pass: with those that are left, as many as of all from that one on
pub record Counting (f : Node → Bool) (m : ℕ) (r : List ℕ) (from found i : ℕ) : Type 0 where
  pub part : Part m r
  pub start : from ≤ i
  pub low : i ≤ m
  pub few : found ≤ i
  pub rest : found + count f (drop i (nodes_in m r)) ≡ count f (drop from (nodes_in m r))

-- node i and those after it, and where there is none
pub here_on : (m : ℕ) (r : List ℕ) {i : ℕ} → i < m → drop i (nodes_in m r) ≡ node_in m r i ∷ drop (suc i) (nodes_in m r)
here_on m r {i} l = drop-cons (nodes_in m r) i free_node (rw (nodes-length m r) l)

pub none-on : (m : ℕ) (r : List ℕ) {i : ℕ} → m ≤ i → drop i (nodes_in m r) ≡ []
none-on m r {i} l = let long : length (nodes_in m r) ≤ i = rw (nodes-length m r) l in drop_of_length-le (nodes_in m r) long

module _ {f : Node → Bool} {m : ℕ} {r : List ℕ} {from found i : ℕ} (h : Counting f m r from found i) where
  pub turn : {v : ℕ} → i < m → v ≡ from_bool (f (node_in m r i)) → Counting f m r from (found + v) (i + 1)
  turn l e =
      record {
        part = h.part;
        start = omega arith;
        low = omega arith;
        few = omega (arith, added (f (node_in m r i)), one-most (f (node_in m r i)), h.few);
        rest = rw (add-one i) (omega (arith, e, added (f (node_in m r i)), h.rest, ap (count f) (here_on m r l)));
      }

  pub ends : m ≤ i → found ≡ count f (drop from (nodes_in m r))
  ends l = omega (arith, h.rest, ap (count f) (none-on m r l))

  -- those of the nodes gone over
  pub between : found ≡ count f (take (i - from) (drop from (nodes_in m r)))
  between =
      let e : from + (i - from) ≡ i = omega (arith, h.start) in
      omega (
        arith,
        h.rest,
        count-split f (i - from) (drop from (nodes_in m r)),
        ap (count f) (drop-drop (i - from) from (nodes_in m r) ∙ ap (λ (n : ℕ). drop n (nodes_in m r)) e),
      )
