-- The invariant over the store buffer: a store that is added, a check, a store that is committed, a tick. Assumes nothing.
use Prim.Native.Nat.{ℕ, suc, ◌+◌, ◌<◌}
use mathlib.Core.Bool.{Bool, true, cond}
use mathlib.Core.List.{List, [], ◌∷◌, ◌++◌}
use mathlib.Core.Path.{◌≡◌, refl, sym, ◌∙◌}
use native.Mathlib.Omega.{arith}
use borrow.Author.Tests.{ltb-true, eq-eqb, ne_eqb}
use lib.ListN.{length, get_or, set, length-set}
use lib.Dec.{eqb}
use Rattle.lists.specs.Tests.{every}
use Rattle.lists.proofs.Facts.{all_snoc, all-test, every-at}
use Rattle.lists.proofs.Stores.{set_cases}
use Rattle.model.specs.Params.{delay}
use Rattle.model.specs.State.{Pending, Hazard, Process, Node, Domain, Step, Reachable, empty_hazard}
use Rattle.model.specs.State.{free_node, no_process, process_of, with_clock, set_process, in_epochs}
use Rattle.model.specs.Hazards.{here, pending, assigning, assign, committing, drained, flushed, latest, young}
use Rattle.model.proofs.Invariant.{hazard_in, Timely, Held, ProcessInv, ProcessWith, ProcessOk}
use Rattle.model.proofs.Invariant.{Near, Inv}
use Rattle.model.proofs.Updates.{set_process_lem, stays}

latest-snoc : (b : List Pending) (e : Pending) (h v : ℕ) → latest (b ++ (e ∷ [])) h v ≡ cond (eqb e.hazard h) e.node (latest b h v)
latest-snoc [] e h v = refl
latest-snoc (w ∷ b) e h v = latest-snoc b e h _

module _ {clock wait g : ℕ} {ep : ℕ → ℕ} {ns : List Node} {e : ℕ} {b : List Pending} {hs : List Hazard} {c : Bool} where
  -- a store into hazard s: it is no longer validated
  pub assign-ok : ProcessInv clock wait g ep ns e b hs c → (s v : ℕ) → s < length hs
      → ProcessInv clock wait g ep ns e (b ++ (pending s v clock ∷ []))
      (set hs s (record { visible = (hazard_in hs s).visible; assigned = v; validated = 0 })) c
  assign-ok o s v inside =
      record {
        arrives = λ h. rw (latest-snoc b (pending s v clock) h)
            (set_cases (λ y. cond (eqb s h) v (latest b h y.visible) ≡ y.assigned) hs s h _ empty_hazard inside
            (λ q. rw (eq-eqb s h (sym q)))
            (λ q. rw (ne_eqb s h (λ r. q (sym r))) (o.arrives h)));
        timely = all_snoc _ b _ o.timely (record { past = omega arith; recent = omega arith });
        aimed = rw length-set (all_snoc _ b _ o.aimed inside);
        counts = λ h n. set_cases (λ y. y.validated ≡ 1 → y.assigned ≡ suc n → c ≡ true) hs s h _ empty_hazard inside
            (λ _ w. absurd (omega arith)) (λ _. o.counts h n);
        held = λ h n. set_cases (λ y. y.validated ≡ 1 → y.assigned ≡ suc n → Held g ep e (b ++ (pending s v clock ∷ [])) h (get_or ns n free_node))
            hs s h _ empty_hazard inside
            (λ _ w _. absurd (omega arith))
            (λ q w a. let k = o.held h n w a in record {
              published = k.published;
              limbo = λ r. let l = k.limbo r in record { before = all_snoc _ b _ l.before (λ x. absurd (q (sym x))); home = l.home; behind = l.behind };
            });
      }

  -- a check of hazard s: the node assigned to it is Reachable
  pub validate-ok : ProcessInv clock wait g ep ns e b hs c → c ≡ true → (s n : ℕ) → s < length hs
      → (hazard_in hs s).assigned ≡ suc n → (get_or ns n free_node).state ≡ Reachable
      → ProcessInv clock wait g ep ns e b (set hs s (record { visible = (hazard_in hs s).visible; assigned = (hazard_in hs s).assigned; validated = 1 })) c
  validate-ok o u s n inside a r =
      record {
        arrives = λ h. set_cases (λ y. latest b h y.visible ≡ y.assigned) hs s h _ empty_hazard inside
            (λ q. rw q (o.arrives s)) (λ _. o.arrives h);
        timely = o.timely;
        aimed = rw length-set o.aimed;
        counts = λ _ _ _ _. u;
        held = λ h m. set_cases (λ y. y.validated ≡ 1 → y.assigned ≡ suc m → Held g ep e b h (get_or ns m free_node)) hs s h _ empty_hazard inside
            (λ q _ a'. let z : m ≡ n = omega arith in rw z (record { published = omega arith; limbo = λ x. absurd (omega arith) }))
            (λ _. o.held h m);
      }

  -- the oldest store is committed
  pub commit-ok : (w : Pending) → ProcessInv clock wait g ep ns e (w ∷ b) hs c
      → ProcessInv clock wait g ep ns e b
      (set hs w.hazard (record { visible = w.node; assigned = (hazard_in hs w.hazard).assigned; validated = (hazard_in hs w.hazard).validated })) c
  commit-ok w o =
      record {
        arrives = λ h. set_cases (λ y. latest b h y.visible ≡ y.assigned) hs w.hazard h _ empty_hazard inside
            (λ q. rw q (rw (eq-eqb w.hazard w.hazard refl) at (o.arrives w.hazard)))
            (λ q. rw (ne_eqb w.hazard h (λ r. q (sym r))) at (o.arrives h));
        timely = o.timely.1;
        aimed = rw length-set o.aimed.1;
        counts = λ h n. set_cases (λ y. y.validated ≡ 1 → y.assigned ≡ suc n → c ≡ true) hs w.hazard h _ empty_hazard inside
            (λ _. o.counts w.hazard n) (λ _. o.counts h n);
        held = λ h n. set_cases (λ y. y.validated ≡ 1 → y.assigned ≡ suc n → Held g ep e b h (get_or ns n free_node)) hs w.hazard h _ empty_hazard inside
            (λ q v a. fewer h n (o.held h n (rw q v) (rw q a)))
            (λ _ v a. fewer h n (o.held h n v a));
      }
    where
      inside : w.hazard < length hs
      inside = o.aimed.0

      fewer : (h n : ℕ) → Held g ep e (w ∷ b) h (get_or ns n free_node) → Held g ep e b h (get_or ns n free_node)
      fewer h n k =
          record { published = k.published; limbo = λ r. let l = k.limbo r in record { before = l.before.1; home = l.home; behind = l.behind } }

-- ---- the process of a step

module _ (d : Domain) (s : Step) (i : Inv d) (hp : s.process < d.params.processes) where
  inside : s.process < length d.processes
  inside = rw i.shape.processes hp

  pub near-here : in_epochs (here d s) ≡ true → Near d.epoch (here d s).epoch
  near-here = i.near s.process inside

  pub hazards-here : length (here d s).hazards ≡ d.params.hazards
  hazards-here = i.shape.hazards s.process inside

  -- it keeps its epoch
  pub keep-process : (x : Process) → length x.hazards ≡ length (here d s).hazards → x.epoch ≡ (here d s).epoch
      → in_epochs x ≡ in_epochs (here d s) → ProcessOk d x → Inv (set_process d s.process x)
  keep-process x l e t o = set_process_lem d i s.process x hp l (λ u. rw e (near-here (sym t ∙ u))) (λ _ _ _ h. e ∙ h)
      (stays d i s.process t) o

  pub assign-keeps : (v : ℕ) → s.hazard < d.params.hazards → Inv (assign d s v)
  assign-keeps v hh =
      keep-process (assigning (here d s) s.hazard v d.clock) (simp length-set) refl refl
      (assign-ok (i.processes s.process) s.hazard v (rw hazards-here hh))

-- what a drain and a flush keep
pub record Drained (d : Domain) (x y : Process) : Type 0 where
  pub ok : ProcessOk d y
  pub width : length y.hazards ≡ length x.hazards
  pub epoch : y.epoch ≡ x.epoch
  pub counts : in_epochs y ≡ in_epochs x

pub drain-ok : (d : Domain) (x : Process) (b : List Pending) → x.buffer ≡ b → ProcessWith d x b → Drained d x (drained x b)
drain-ok d x [] q o = record { ok = rw q o; width = refl; epoch = refl; counts = refl }
drain-ok d x (w ∷ b) q o = record { ok = commit-ok w o; width = simp length-set; epoch = refl; counts = refl }

pub flush-ok : (d : Domain) (x : Process) (b : List Pending) → x.buffer ≡ b → ProcessWith d x b → Drained d x (flushed x b)
flush-ok d x [] q o = record { ok = rw q o; width = refl; epoch = refl; counts = refl }
flush-ok d x (w ∷ b) q o =
    let r = flush-ok d (committing x w b) b refl (commit-ok w o) in
    record { ok = r.ok; width = r.width ∙ simp length-set; epoch = r.epoch; counts = r.counts }

-- one tick later, every pending store having been younger than the delay
pub tick-ok : (d : Domain) → Inv d → every (young d) d.processes ≡ true → Inv (with_clock d (d.clock + 1))
tick-ok d i y =
    record {
      shape = record { processes = i.shape.processes; hazards = i.shape.hazards; nodes = i.shape.nodes };
      epoch = i.epoch;
      near = i.near;
      processes = λ p. record {
        arrives = (i.processes p).arrives;
        timely = all-test (Timely d.clock (delay d.params)) (Timely (d.clock + 1) (delay d.params)) _ (process_of d p).buffer
            (λ w e f. record { past = omega arith; recent = omega (arith, ltb-true) })
            (every-at (young d) d.processes p no_process y refl) (i.processes p).timely;
        aimed = (i.processes p).aimed;
        held = (i.processes p).held;
        counts = (i.processes p).counts;
      };
      owners = i.owners;
    }
