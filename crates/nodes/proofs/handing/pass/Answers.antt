-- `handing::pass` meets its contract: of the words of a Retired node the owner and the two of its retirement are written. Assumes nothing.
use Prim.Native.Nat.{ℕ, ◌+◌, ◌*◌, ◌<◌}
use mathlib.Core.List.{List, [], ◌∷◌}
use mathlib.Core.Path.{◌≡◌, refl, ap}
use lib.ListN.{set}
use Rattle.model.specs.Params.{node_width}
use Rattle.model.specs.State.{Node, Retired}
use Rattle.model.specs.Retire.{retiring}
use Rattle.model.specs.Leave.{owned_by}
use Rattle.nodes.specs.Part.{node_in, Part, with_node}
use Rattle.nodes.proofs.Words.{word_set, word_more}
use native.Mathlib.Omega.{arith}
use Rattle.nodes.proofs.handing.pass.Goals as goal

-- one word after the other, the state being what it is to be
passed : {m c a : ℕ} {r : List ℕ} (h : Part m r) (l : c < m) (e : a ≡ node_width * c) → (node_in m r c).state ≡ Retired → (q time epoch : ℕ)
    → set (set (set r (a + 1) q) (a + 3) time) (a + 4) epoch ≡ with_node m r c (retiring time epoch (owned_by q (node_in m r c)))
passed {m} {c} {a} {r} h l e s q time epoch =
    let n : Node = node_in m r c in
    let owned = word_set h l e 1 q (owned_by q n) (omega arith) refl in
    let timely : Node = record { state = n.state; owner = q; guest = n.guest; retired_at = time; limbo = n.limbo } in
    let timed = word_more h l e (owned_by q n) owned 3 time timely (omega arith) refl in
    word_more h l e timely timed 4 epoch (retiring time epoch (owned_by q n)) (omega arith)
    (ap (λ (v : ℕ). v ∷ q ∷ n.guest ∷ time ∷ epoch ∷ []) s)

pub returns : goal.returns
returns c =
    passed c.requires.0 c.requires.1 c.offset-at.ensures.0 c.requires.2 c.args.q.0 c.args.time c.args.epoch
