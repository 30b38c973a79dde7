-- The invariant over a leave and a join. A leaver has no claim and, once its nodes are handed over, no Retired node, so nothing goes by its
-- epoch; what is handed over is retired now, by a process that is present. Assumes nothing.
use Prim.Native.Nat.{ℕ, ◌<◌}
use mathlib.Core.Bool.{Bool, true, false, not, ◌&&◌, ◌||◌, false≢true}
use mathlib.Core.Path.{◌≡◌, refl, sym, subst}
use mathlib.Core.Logic.{◌≢◌}
use native.Mathlib.Omega.{arith}
use borrow.Author.Tests.{eqb-true, eqb-false, eq-eqb}
use lib.ListN.{length-map}
use lib.Dec.{eqb}
use Rattle.lists.proofs.Bools.{by_cond}
use Rattle.lists.proofs.Facts.{every-at}
use Rattle.model.specs.State.{Node, Domain, Allocated, Removed, Retired, free_node, node_of, process_of}
use Rattle.model.specs.Retire.{retired_by}
use Rattle.model.specs.Leave.{under_way, unburdened, owned_by, hand_over, leave, join}
use Rattle.model.proofs.Handed.{Heir, none-assigned, none-under-way, handed-at}
use Rattle.model.proofs.Invariant.{Inv, HeldBy, Owned, OwnerPresent}
use Rattle.model.proofs.Updates.{same_nodes, set_process_lem}
use Rattle.model.proofs.Unclaimed.{bare, retired-now}

-- a node of p is Retired or under way
none_owned : (p : ℕ) (n : Node) → not (under_way p n) ≡ true → retired_by p n ≡ false → Owned n → n.owner ≡ p → ⊥
none_owned p n u r o e =
    by (eqb n.state Allocated) refl (eqb n.state Removed) refl (eqb n.state Retired) refl
    (rw (eq-eqb n.owner p e) at u) (rw (eq-eqb n.owner p e) at r)
  where
    by : (a : Bool) → eqb n.state Allocated ≡ a → (b : Bool) → eqb n.state Removed ≡ b → (c : Bool) → eqb n.state Retired ≡ c
        → not ((a || b) && true) ≡ true → (c && true) ≡ false → ⊥
    by true _ b _ c _ x y = false≢true x
    by false _ true _ c _ x y = false≢true x
    by false _ false _ true _ x y = false≢true (sym y)
    by false f false g false h x y = omega (arith, eqb-false)

module _ (d : Domain) (i : Inv d) where
  hand-over-ok : (p q : ℕ) → Heir d p q → Inv (hand_over d p q)
  hand-over-ok p q y =
      same_nodes d i (hand_over d p q).nodes (length-map d.nodes _)
      (λ n. subst (OwnerPresent d.processes) (sym (handed-at d p q n))
      (by_cond (OwnerPresent d.processes) (retired_by p (node_of d n)) (λ _ _. y.present) (λ _. i.owners n))) λ r h n k o.
      subst (HeldBy d r h) (sym (handed-at d p q n))
      (by_cond (HeldBy d r h) (retired_by p (node_of d n))
      (λ _. retired-now d i q y.below y.present (owned_by q (node_of d n)) refl r h) (λ _. o))

  -- no node is the leaver's: it had none under way, and the Retired ones are handed over
  none_left : (p q : ℕ) → unburdened d p ≡ true → q ≢ p → (c : ℕ) → Owned (node_of (hand_over d p q) c) → (node_of (hand_over d p q) c).owner ≡ p → ⊥
  none_left p q u ne c =
      subst (λ n. Owned n → n.owner ≡ p → ⊥) (sym (handed-at d p q c))
      (by_cond (λ (n : Node). Owned n → n.owner ≡ p → ⊥) (retired_by p (node_of d c)) (λ _ _ e. ne e)
      (none_owned p (node_of d c) (every-at (λ n. not (under_way p n)) d.nodes c free_node (none-under-way d p u) refl)))

  pub leave-ok : (p q : ℕ) → p < d.params.processes → unburdened d p ≡ true → Heir d p q → Inv (leave d p q)
  leave-ok p q hp u y =
      let j = hand-over-ok p q y in
      let empty = bare (process_of d p) (none-assigned d p u) in
      set_process_lem (hand_over d p q) j p _ hp refl (λ e. absurd (false≢true e))
      (λ c st ow. absurd (none_left p q u y.other c (omega arith) ow))
      (λ c o ow. absurd (none_left p q u y.other c o ow))
      (record {
        arrives = (j.processes p).arrives;
        timely = (j.processes p).timely;
        aimed = (j.processes p).aimed;
        held = λ h n _ a. absurd (empty h n a);
        counts = λ h n _ a. absurd (empty h n a);
      })

  -- an absent process has no claim
  pub join-ok : (p : ℕ) → p < d.params.processes → (process_of d p).present ≡ 0 → Inv (join d p)
  join-ok p hp z =
      set_process_lem d i p _ hp refl (λ _. (i.epoch, omega (arith, i.epoch))) (λ _ _ _ _. refl) (λ _ _ _. refl)
      (record {
        arrives = (i.processes p).arrives;
        timely = (i.processes p).timely;
        aimed = (i.processes p).aimed;
        held = λ h n v a. absurd (omega (arith, z, eqb-true (process_of d p).present 1 ((i.processes p).counts h n v a)));
        counts = λ _ _ _ _. refl;
      })
