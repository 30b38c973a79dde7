-- `pass::further` meets its contract: the node is looked at by the row of its state and, if it is asked, counted by its state. Assumes nothing.
use Prim.Native.Nat.{ℕ, ◌≤◌}
use native.Mathlib.Omega.{arith}
use Rattle.model.specs.State.{Retired}
use Rattle.nodes.proofs.GoingOver.{weight-counts, none-counts, goes_on_lem}
use Rattle.nodes.specs.Part.{node_in}
use mathlib.Core.Path.{◌≡◌, refl, sym}
use native.Mathlib.Nat.{add-zero}
use borrow.Author.Rules.{rules}
use Rattle.nodes.proofs.pass.further.Goals as goal

-- the place in the table of what the node counts for is a state
few : {w s n : ℕ} → w ≡ s → s ≡ n → n ≤ Retired → w ≤ Retired
few e f h = omega arith

pub returns-then-counting : goal.returns-then-counting
returns-then-counting c x g =
    let a = c.args in
    let n = node_in a.m a.nodes.now a.c.0 in
    let weighed = weight-counts n c.if-counting.true c.requires.limits_len.1 c.wide.ensures.0 c.state_of.ensures
    c.requires.part.2 in
    goes_on_lem c.requires.part.0 c.requires.part.1 c.requires.part.2 (λ j. search rules) c.node-faults.ensures
    weighed refl g

pub returns-else-counting : goal.returns-else-counting
returns-else-counting c x g =
    let a = c.args in
    goes_on_lem c.requires.part.0 c.requires.part.1 c.requires.part.2 (λ j. search rules) c.node-faults.ensures
    (none-counts (node_in a.m a.nodes.now a.c.0) c.if-counting.false) (sym (add-zero a.known.reachable)) g
