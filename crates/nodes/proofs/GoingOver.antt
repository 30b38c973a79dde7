-- One pass over the nodes: what is known at its start, after a node more, where a state is none of the five, and at its end. Assumes nothing.
use Prim.Native.Nat.{ℕ, zero, suc, ◌+◌, ◌≤◌, ◌<◌}
use mathlib.Core.Bool.{Bool, true, false, ◌&&◌, cond}
use mathlib.Core.List.{List}
use mathlib.Core.Path.{◌≡◌, refl, sym, ap, ◌∙◌}
use Rattle.std.specs.Prelude.{Some, None}
use native.Mathlib.Omega.{arith}
use native.Mathlib.Numerals.{add-one}
use lib.Seq.{take_all}
use lib.ListN.{get_or, take, length-take}
use lib.Dec.{eqb}
use Rattle.lists.specs.Tests.{count}
use Rattle.lists.proofs.Turns.{count_turn}
use Rattle.lists.proofs.Counts.{count_most}
use Rattle.model.specs.State.{Node, Reachable, Retired, free_node}
use Rattle.layout.specs.Nodes.{nodes_in}
use Rattle.layout.specs.Shape.{word}
use Rattle.limits.specs.Limits.{none, any_word}
use Rattle.limits.specs.declared.Faults.{Faults}
use Rattle.nodes.specs.Part.{node_in, Part}
use Rattle.nodes.specs.NodeLimits.{in_limits}
use Rattle.nodes.specs.Pass.{is_counted, state_weights, GoneOver, Finds}
use Rattle.nodes.specs.declared.pass.Known.{Known}
use Rattle.nodes.proofs.Words.{nodes-length}
use Rattle.nodes.proofs.ByState.{nodes_start_lem, nodes-turn, nodes-stop, nodes-end}

-- the table has 1 for a Reachable node and 0 for the others
weighed : (s : ℕ) → s ≤ Retired → get_or state_weights s 0 ≡ cond (eqb s Reachable) 1 0
weighed zero h = refl
weighed (suc zero) h = refl
weighed (suc (suc zero)) h = refl
weighed (suc (suc (suc zero))) h = refl
weighed (suc (suc (suc (suc zero)))) h = refl
weighed (suc (suc (suc (suc (suc s))))) h = absurd (omega arith)

-- what a node adds, where they are counted and where they are not
pub weight-counts : {b : Bool} (n : Node) {ws : List ℕ} {s w : ℕ} → b ≡ true → ws ≡ state_weights → w ≡ s → s ≡ n.state
    → n.state ≤ Retired → get_or ws w 0 ≡ cond (is_counted b n) 1 0
weight-counts n eb ew ei es h = rw (eb, ew, ei, es) (weighed n.state h)

pub none-counts : {b : Bool} (n : Node) → b ≡ false → ◌≡◌ {A = ℕ} 0 (cond (is_counted b n) 1 0)
none-counts n eb = rw eb

-- the count alone: a node more, and all of them
module _ (f : Node → Bool) (m : ℕ) (r : List ℕ) (i : ℕ) {found : ℕ} (h : found ≡ count f (take i (nodes_in m r))) where
  count-more : {v : ℕ} → i < m → v ≡ cond (f (node_in m r i)) 1 0 → found + v ≡ count f (take (i + 1) (nodes_in m r))
  count-more l e = rw (add-one i) (rw (h, e) (count_turn f (nodes_in m r) i free_node (rw (nodes-length m r) l)))

  count-all : m ≤ i → found ≡ count f (nodes_in m r)
  count-all l = h ∙ ap (count f) (take_all i (nodes_in m r) (rw (nodes-length m r) l))

module _ {x b : Bool} {m : ℕ} {r ls : List ℕ} where
  pub starts : {fs : Faults} → x ≡ none fs → GoneOver x b m r ls 0 (record { faults = fs; reachable = 0 })
  starts e = record { fits = nodes-end x r ls refl (nodes_start_lem x r ls) (sym e); counted = refl }

  -- no more are counted than were gone over
  pub few : {i : ℕ} {k : Known} → GoneOver x b m r ls i k → k.reachable ≤ i
  few {i} h = omega (arith, h.counted, count_most (is_counted b) (take i (nodes_in m r)), length-take i (nodes_in m r))

  pub goes_on_lem : {i v n : ℕ} {k : Known} {fs : Faults} → Part m r → i < m → (node_in m r i).state ≤ Retired → ((j : ℕ) → word r j ≤ any_word)
      → none fs ≡ (none k.faults && in_limits ls m r i) → v ≡ cond (is_counted b (node_in m r i)) 1 0 → n ≡ k.reachable + v
      → GoneOver x b m r ls i k → GoneOver x b m r ls (i + 1) (record { faults = fs; reachable = n })
  goes_on_lem {i} h l known w hf hv hn g =
      record { fits = nodes-turn x r ls h l known w g.fits hf; counted = hn ∙ count-more (is_counted b) m r i g.counted l hv }

  pub stops : {i : ℕ} → Part m r → i < m → Retired < (node_in m r i).state → Finds x b m r ls None
  stops h l many = record { fits = nodes-stop x r ls h l many; counted = refl }

  pub ends : {i : ℕ} {k : Known} → i ≡ m → GoneOver x b m r ls i k → true ≡ none k.faults → Finds x b m r ls (Some k.reachable)
  ends {i} e g good =
      record {
        fits = nodes-end x r ls e g.fits good;
        counted = ap (λ (n : ℕ). Some n) (count-all (is_counted b) m r i g.counted (omega arith));
      }
