-- What a leave is asked and what it hands over: the second process, the leaver's hazards, each node afterwards. Assumes nothing.
use Prim.Native.Nat.{ℕ, ◌<◌}
use mathlib.Core.Bool.{true, not}
use mathlib.Core.Path.{◌≡◌}
use mathlib.Core.Logic.{◌≢◌}
use borrow.Author.Tests.{ltb-true, eqb-false, not-true}
use lib.ListN.{length, get_or-map}
use lib.Dec.{eqb, ltb}
use Rattle.lists.specs.Tests.{every}
use Rattle.lists.proofs.Bools.{both}
use Rattle.model.specs.State.{Domain, free_node, node_of, process_of, is_present}
use Rattle.model.specs.Hazards.{unassigned}
use Rattle.model.specs.Leave.{under_way, unburdened, takes_over, handed, hand_over}

-- what question 22 says of the second process q, and 21 of the leaver's hazards and nodes
pub record Heir (d : Domain) (p q : ℕ) : Type 0 where
  pub below : q < d.params.processes
  pub other : q ≢ p
  pub present : is_present (process_of d q) ≡ true

pub heir : (d : Domain) (p q : ℕ) → takes_over d p q ≡ true → Heir d p q
heir d p q h =
    let u = both (ltb q d.params.processes) _ h in
    let v = both (not (eqb q p)) _ u.1 in
    record { below = ltb-true _ _ u.0; other = eqb-false _ _ (not-true _ v.0); present = v.1 }

pub none-assigned : (d : Domain) (p : ℕ) → unburdened d p ≡ true → unassigned (process_of d p) ≡ true
none-assigned d p h = (both (unassigned (process_of d p)) _ h).0

pub none-under-way : (d : Domain) (p : ℕ) → unburdened d p ≡ true → every (λ n. not (under_way p n)) d.nodes ≡ true
none-under-way d p h = (both (eqb (length (process_of d p).buffer) 0) _ (both (unassigned (process_of d p)) _ h).1).1

-- each node, handed over or as it was
pub handed-at : (d : Domain) (p q c : ℕ)
    → node_of (hand_over d p q) c ≡ handed p q d.clock (process_of d q).epoch (node_of d c)
handed-at d p q c = get_or-map (handed p q d.clock (process_of d q).epoch) d.nodes c free_node
