-- What a retire, a manage and a portion free: a sweep of Retired nodes, and as many as the value says; and what a leave leaves of a node.
-- Assumes nothing.
use Prim.Native.Nat.{ℕ}
use mathlib.Core.Bool.{Bool, true, false, false≢true}
use mathlib.Core.List.{List}
use mathlib.Core.Path.{◌≡◌, refl, sym}
use borrow.Author.Tests.{eqb-true}
use lib.Dec.{eqb}
use Rattle.lists.specs.Tests.{count_from}
use Rattle.lists.specs.Sweep.{sweep_from}
use Rattle.lists.proofs.Bools.{both}
use Rattle.lists.proofs.Counts.{count_none}
use Rattle.lists.proofs.Sweeps.{sweep-none}
use Rattle.model.specs.Params.{Params}
use Rattle.model.specs.State.{Node, Domain, Step, Fast, Retired, free_node, with_path}
use Rattle.model.specs.Retire.{Effect, effect, retired_by, within, due_in, partial_scan, scan, fall_back, reclaim}
use Rattle.model.specs.Epochs.{expired, quiescent, counted, manage}
use Rattle.model.proofs.Walk.{by-reclaim, by-quiescent, by-manage}

-- from nodes ns
pub record Reclaims (a : Params) (ns : List Node) (e : Effect) : Type 0 where
  pub test : ℕ → Node → Bool
  pub retired : (c : ℕ) (n : Node) → test c n ≡ true → n.state ≡ Retired
  pub value : e.value ≡ count_from test 0 ns
  pub params : e.after.params ≡ a
  pub nodes : e.after.nodes ≡ sweep_from free_node test 0 ns

-- nothing is freed
pub reclaims-none : (d : Domain) → Reclaims d.params d.nodes (effect 0 d)
reclaims-none d =
    record {
      test = λ _ _. false;
      retired = λ c n h. absurd (false≢true h);
      value = sym (count_none 0 d.nodes);
      params = refl;
      nodes = sym (sweep-none free_node 0 d.nodes);
    }

-- ---- A scan and an adoption free Retired nodes

pub retired_by_lem : (p : ℕ) (n : Node) → retired_by p n ≡ true → (n.state ≡ Retired) × (n.owner ≡ p)
retired_by_lem p n h = let e = both (eqb n.state Retired) (eqb n.owner p) h in (eqb-true _ _ e.0, eqb-true _ _ e.1)

pub due-retired : (d : Domain) (p a b c : ℕ) (n : Node) → due_in d p a b c n ≡ true → n.state ≡ Retired
due-retired d p a b c n h = (retired_by_lem p n (both (retired_by p n) _ (both (within a b c) _ h).1).0).0

pub expired-retired : (d : Domain) (p c : ℕ) (n : Node) → expired d p c n ≡ true → n.state ≡ Retired
expired-retired d p c n h = (retired_by_lem p n (both (retired_by p n) _ h).0).0

pub partial-reclaims : (d : Domain) (p a b : ℕ) → Reclaims d.params d.nodes (partial_scan d p a b)
partial-reclaims d p a b =
    record {
      test = due_in d p a b;
      retired = due-retired d p a b;
      value = refl;
      params = refl;
      nodes = refl;
    }

scan-reclaims : (d : Domain) (p : ℕ) → Reclaims d.params d.nodes (scan d p)
scan-reclaims d p = partial-reclaims d p 0 d.params.nodes

quiescent-reclaims : (d : Domain) (p : ℕ) → Reclaims d.params d.nodes (quiescent d p)
quiescent-reclaims d p =
    by-quiescent (Reclaims d.params d.nodes) d p (λ _ _. reclaims-none _) (λ _ _. reclaims-none _)
    (λ _. record {
      test = expired d p;
      retired = expired-retired d p;
      value = refl;
      params = refl;
      nodes = refl;
    })

-- ---- Retire, once its node is marked, and manage

pub reclaim-reclaims : (d : Domain) (p : ℕ) → Reclaims d.params d.nodes (reclaim d p)
reclaim-reclaims d p =
    by-reclaim (Reclaims d.params d.nodes) d p (λ _. scan-reclaims d p) (λ _ _. scan-reclaims (fall_back d) p)
    (λ _ _. reclaims-none _)

pub manage-reclaims : (d : Domain) (s : Step) → Reclaims d.params d.nodes (manage d s)
manage-reclaims d s =
    let m = counted d s 0 1 in
    by-manage (Reclaims d.params d.nodes) d s (λ _ _ _. quiescent-reclaims (with_path m Fast) s.process)
    (λ _ _ _. reclaims-none _) (λ _ _. quiescent-reclaims m s.process) (λ _. reclaims-none _)
