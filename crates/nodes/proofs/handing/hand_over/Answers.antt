-- `handing::hand_over` meets its contract. The first i nodes are handed over, each that is Retired by p, and the others are as they were.
-- Assumes nothing.
use Prim.Native.Nat.{ℕ, ◌+◌, ◌<◌}
use mathlib.Core.Bool.{Bool, true, false}
use mathlib.Core.List.{List}
use mathlib.Core.Path.{◌≡◌, sym, ◌∙◌}
use Rattle.model.specs.Retire.{retired_by, retiring}
use Rattle.model.specs.Leave.{owned_by, handed}
use Rattle.nodes.specs.Part.{node_in, with_node}
use Rattle.nodes.proofs.Mapping.{Mapping, turn, turn-kept, ends}
use Rattle.nodes.proofs.handing.hand_over.Goals as goal
use Rattle.nodes.proofs.handing.hand_over.Goals.{then-retired_by, else-retired_by}

-- a turn, by whether the node is one of p's Retired ones: it is handed over, or nothing is written
module _ (p q time epoch : ℕ) {m i : ℕ} {r₀ r r' : List ℕ} {b : Bool} (h : Mapping (handed p q time epoch) m r₀ r i) (l : i < m)
    (e : b ≡ retired_by p (node_in m r i)) where
  hands : b ≡ true → r' ≡ with_node m r i (retiring time epoch (owned_by q (node_in m r i))) → Mapping (handed p q time epoch) m r₀ r' (i + 1)
  hands its = turn h l (rw (sym e ∙ its))

  keeps : b ≡ false → r' ≡ r → Mapping (handed p q time epoch) m r₀ r' (i + 1)
  keeps other = turn-kept h l (rw (sym e ∙ other))

pub loop-i-preserved : goal.loop-i-preserved
loop-i-preserved c =
    let a = c.args in
    let inv = c.loop-i.invariant in
    let lt = c.loop-i-test.true in
    elim c.if-retired_by.branch [
      | then-retired_by w ↦ hands a.p.0 a.q.0 a.time a.epoch inv lt c.retired_by.ensures w.if-retired_by.true (w.nodes-is ∙ w.pass.ensures)
      | else-retired_by w ↦ keeps a.p.0 a.q.0 a.time a.epoch inv lt c.retired_by.ensures w.if-retired_by.false w.nodes-is
    ]

pub returns : goal.returns
returns c = ends c.loop-i.invariant c.loop-i-test.false
