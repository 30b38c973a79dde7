-- How far a Retired node is from being freed: how often the global epoch has still to go on until the owner's next quiescent state frees it.
-- Assumes nothing.
use Prim.Native.Nat.{ℕ, ◌<◌, ◌≤◌}
use mathlib.Core.Bool.{cond}
use mathlib.Core.Path.{◌≡◌, refl}
use mathlib.Core.Logic.{◌≢◌}
use native.Mathlib.Omega.{arith}
use borrow.Author.Tests.{eqb-true, eqb-false, ne_eqb}
use lib.Dec.{eqb}
use Rattle.lists.proofs.Bools.{by_cond}
use Rattle.model.specs.State.{Domain, node_of, process_of, next_epoch}

-- g is the global epoch, e the owner's local one, l the node's limbo list
abbrev pub distance_of : ℕ → ℕ → ℕ → ℕ
distance_of g e l = cond (eqb l g) (cond (eqb e g) 3 0) (cond (eqb l (next_epoch g)) 1 2)

abbrev pub distance : Domain → ℕ → ℕ
distance d c = distance_of d.epoch (process_of d (node_of d c).owner).epoch (node_of d c).limbo

-- by the list and the owner's epoch
pub by-distance : (P : ℕ → Type 0) (g e l : ℕ) → (l ≡ g → e ≡ g → P 3) → (l ≡ g → e ≢ g → P 0) → (l ≡ next_epoch g → P 1)
    → (l ≢ g → l ≢ next_epoch g → P 2) → P (distance_of g e l)
by-distance P g e l three none one two =
    by_cond P (eqb l g)
    (λ h. by_cond P (eqb e g) (λ k. three (eqb-true l g h) (eqb-true e g k)) (λ k. none (eqb-true l g h) (eqb-false e g k)))
    (λ h. by_cond P (eqb l (next_epoch g)) (λ k. one (eqb-true l (next_epoch g) k)) (λ k. two (eqb-false l g h) (eqb-false l (next_epoch g) k)))

pub distance_most : (g e l : ℕ) → distance_of g e l ≤ 3
distance_most g e l =
    by-distance (λ n. n ≤ 3) g e l (λ _ _. omega arith) (λ _ _. omega arith) (λ _. omega arith) (λ _ _. omega arith)

-- three only where the owner has come to the global epoch
pub distance-three : (g e l : ℕ) → distance_of g e l ≡ 3 → e ≡ g
distance-three g e l =
    by-distance (λ n. n ≡ 3 → e ≡ g) g e l (λ _ k _. k) (λ _ _ z. absurd (omega arith)) (λ _ z. absurd (omega arith)) (λ _ _ z. absurd (omega arith))

-- none only where it has not
pub distance_none : (g e l : ℕ) → distance_of g e l ≡ 0 → e ≢ g
distance_none g e l =
    by-distance (λ n. n ≡ 0 → e ≢ g) g e l (λ _ _ z. absurd (omega arith)) (λ _ k _. k) (λ _ z. absurd (omega arith)) (λ _ _ z. absurd (omega arith))

-- on another list than the global epoch's the owner's epoch does not matter
pub distance-away : (g e e' l : ℕ) → l ≢ g → distance_of g e l ≡ distance_of g e' l
distance-away g e e' l n = rw (ne_eqb l g n)

-- the global epoch goes on while the owner is at it
pub distance-closer : (g l : ℕ) → g < 3 → l < 3 → distance_of (next_epoch g) g l < distance_of g g l
distance-closer g l hg hl =
    by-distance (λ n. n < distance_of g g l) (next_epoch g) g l
    (λ _ e. absurd (omega arith))
    (λ x _. by-distance (λ n. 0 < n) g g l (λ _ _. omega arith) (λ _ n. absurd (n refl)) (λ _. omega arith) (λ _ _. omega arith))
    (λ x. by-distance (λ n. 1 < n) g g l (λ _ _. omega arith) (λ _ n. absurd (n refl)) (λ y. absurd (omega arith)) (λ _ _. omega arith))
    (λ x y. by-distance (λ n. 2 < n) g g l (λ _ _. omega arith) (λ _ n. absurd (n refl)) (λ z. absurd (x z)) (λ z _. absurd (omega arith)))
