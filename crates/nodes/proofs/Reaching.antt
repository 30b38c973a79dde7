-- A loop that goes over the nodes past a number of those that pass a test: what holds at its head, after a turn and at its
-- two ends. Assumes nothing.
use Prim.Native.Nat.{ℕ, suc, ◌+◌, ◌-◌, ◌≤◌, ◌<◌}
use mathlib.Core.Bool.{Bool, cond}
use mathlib.Core.List.{List}
use mathlib.Core.Path.{◌≡◌, sym, ap, ◌∙◌}
use native.Mathlib.Omega.{arith}
use native.Mathlib.Numerals.{add-one}
use lib.ListN.{drop}
use Rattle.std.specs.Int.{from_bool}
use Rattle.lists.specs.Tests.{past_from}
use Rattle.lists.proofs.Turns.{one-most}
use Rattle.lists.proofs.Past.{past_more, past-none}
use Rattle.model.specs.State.{Node}
use Rattle.layout.specs.Nodes.{nodes_in}
use Rattle.nodes.specs.Part.{node_in}
use Rattle.nodes.specs.Portions.{Reached}
use Rattle.nodes.proofs.Counting as counting

-- so many pass up to i: what is left ends where the whole does
pub record Reaching (f : Node → Bool) (m : ℕ) (r : List ℕ) (limit from found i : ℕ) : Type 0 where
  pub counted : counting.Counting f m r from found i
  pub most : found ≤ limit
  pub rest : past_from f (limit - found) i (drop i (nodes_in m r)) ≡ past_from f limit from (drop from (nodes_in m r))

module _ {f : Node → Bool} {m : ℕ} {r : List ℕ} {limit from found i : ℕ} (h : Reaching f m r limit from found i) where
  -- one more, where the limit is not reached
  pub turn : {v : ℕ} → i < m → (found ≡ limit → ⊥) → v ≡ from_bool (f (node_in m r i)) → Reaching f m r limit from (found + v) (i + 1)
  turn {v} l less e =
      let one = one-most (f (node_in m r i)) in
      let more = counting.added (f (node_in m r i)) in
      let on : found < limit = omega (arith, h.most, less) in
      let fewer : limit - found ≡ limit - (found + v) + cond (f (node_in m r i)) 1 0 = omega (arith, one, more, e, on) in
      record {
        counted = counting.turn h.counted l e;
        most = omega (arith, one, more, e, on);
        rest =
            rw (add-one i)
            (sym (past_more f (limit - found) (limit - (found + v)) i (node_in m r i) (drop (suc i) (nodes_in m r)) (omega arith) fewer)
            ∙ sym (ap (past_from f (limit - found) i) (counting.here_on m r l)) ∙ h.rest);
      }

  reached : i ≡ past_from f limit from (drop from (nodes_in m r)) → Reached f limit from m (nodes_in m r) (record { next = i; examined = found })
  reached e = record { next = e; examined = counting.between h.counted; low = h.counted.start; high = h.counted.low }

  pub stops : found ≡ limit → Reached f limit from m (nodes_in m r) (record { next = i; examined = found })
  stops e =
      let none : limit - found ≡ 0 = omega arith in
      reached (sym (ap (λ (n : ℕ). past_from f n i (drop i (nodes_in m r))) none) ∙ h.rest)

  pub ends : m ≤ i → Reached f limit from m (nodes_in m r) (record { next = m; examined = found })
  ends l =
      let e : i ≡ m = omega (arith, h.counted.low) in
      rw e at (reached (sym (ap (past_from f (limit - found) i) (counting.none-on m r l) ∙ past-none f (limit - found) i) ∙ h.rest))
