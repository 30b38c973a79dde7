-- A manage on the fast path: it is counted, or it brings its process to the global epoch, or it brings a Retired node closer to being freed, if
-- it does not free it. Assumes nothing.
use Prim.Native.Nat.{ℕ, ◌+◌, ◌%◌, ◌<◌}
use mathlib.Core.Bool.{Bool, true, false, false≢true}
use mathlib.Core.Path.{◌≡◌, refl, sym, ◌∙◌, ap}
use mathlib.Core.Logic.{◌≢◌, ◌⊎◌, inl, inr}
use native.Mathlib.Omega.{arith}
use native.Mathlib.Nat.{mod-eq_of_lt, mod_self}
use borrow.Author.Tests.{eqb-true, eqb-false, eq-eqb, ne_eqb}
use lib.ListN.{length, length-set}
use lib.Seq.{get_or-set_same, get_or-set_other}
use lib.Dec.{eqb}
use Rattle.lists.proofs.Bools.{implied, imply}
use Rattle.lists.proofs.Facts.{every_in, every_of, inside}
use Rattle.lists.proofs.Stores.{set_keeps}
use Rattle.model.specs.State.{Domain, Step, Free, Retired, Fast, no_process, free_node}
use Rattle.model.specs.State.{node_of, process_of, with_epoch, in_epochs, next_epoch}
use Rattle.model.specs.WellFormed.{WellFormed}
use Rattle.model.specs.Kinds.{Manage}
use Rattle.model.specs.Hazards.{here}
use Rattle.model.specs.Retire.{effect}
use Rattle.model.specs.Epochs.{expired, caught_up, adopt, called_by, counted}
use Rattle.model.specs.Machine.{accepted, act}
use Rattle.model.proofs.Walk.{Asked, acting, by-quiescent, by-manage}
use Rattle.model.proofs.Invariant.{Inv}
use Rattle.model.proofs.WellFormed.{node_fits_lem, process-fits}
use Rattle.model.proofs.Distance.{distance_of, distance, distance-away, distance-closer}
use Rattle.model.proofs.Nearing.{AtGlobal, calls_of, owner-there, Counted, Acted, turn, Moved, kept-by-sweep}
use Rattle.model.proofs.Nearing.{passed_over}
use Rattle.model.proofs.Nearing.{by-process}

-- a call that does not act is counted
next-call : (k q : ℕ) → k < q → (k + 1) % q ≢ 0 → (k + 1) % q ≡ k + 1
next-call k q h z = by (eqb (k + 1) q) refl
  where
    by : (b : Bool) → eqb (k + 1) q ≡ b → (k + 1) % q ≡ k + 1
    by true e = absurd (z (rw (eqb-true (k + 1) q e) (mod_self q)))
    by false e = let ne = eqb-false (k + 1) q e in mod-eq_of_lt (omega arith)

-- ---- manage, of node c that is Retired and whose owner is present

module _ (c : ℕ) (d : Domain) (s : Step) (i : Inv d) (w : WellFormed d) (retired : (node_of d c).state ≡ Retired)
    (asked : Asked Manage d s) where
  abbrev g : ℕ
  g = d.epoch

  abbrev o : ℕ
  o = (node_of d c).owner

  abbrev l : ℕ
  l = (node_of d c).limbo

  abbrev p : ℕ
  p = s.process

  abbrev m : Domain
  m = counted d s 0 1

  limbo-small : l < 3
  limbo-small =
      let n = inside (λ n. n.state ≡ Retired) d.nodes c free_node (λ e. omega arith) retired in
      omega (arith, (node_fits_lem w c (omega (arith, w.node_count))).limbo)

  p-inside : p < length d.processes
  p-inside = rw w.process_count (asked.process refl)

  p-there : in_epochs (process_of d p) ≡ true
  p-there = acting Manage d s asked refl refl

  -- with other words and the same epoch, process p is where it was
  words-epoch : (k v q : ℕ) → (process_of (counted d s k v) q).epoch ≡ (process_of d q).epoch
  words-epoch k v q = set_keeps (λ y. y.epoch ≡ (process_of d q).epoch) d.processes p q _ no_process (λ e _. rw e) refl

  words-part : (k v q : ℕ) → in_epochs (process_of (counted d s k v) q) ≡ in_epochs (process_of d q)
  words-part k v q = set_keeps (λ y. in_epochs y ≡ in_epochs (process_of d q)) d.processes p q _ no_process (λ e _. rw e) refl

  words-at : (k v q : ℕ) → AtGlobal d q → AtGlobal (counted d s k v) q
  words-at k v q h u = words-epoch k v q ∙ h (sym (words-part k v q) ∙ u)

  words-calls : (k v q : ℕ) → q ≢ p → calls_of (counted d s k v) q ≡ calls_of d q
  words-calls k v q n = ap (λ x. x.calls) (get_or-set_other d.processes p q _ no_process n)

  -- of a manage of p: another process has been counted on, p itself as it is shown
  each : (d' : Domain) → ((q : ℕ) → q ≢ p → calls_of d' q ≡ calls_of d q) → Acted c d d' p
      → (q : ℕ) → Counted Manage s 0 d d' q ⊎ Acted c d d' q
  each d' f a q =
      by-process (Counted Manage s 0 d d' q ⊎ Acted c d d' q) q p
      (λ e. inr (rw e a)) (λ n. inl (record { calls = rw (ne_eqb p q (λ e. n (sym e))) (omega (arith, f q n)); stays = refl }))

  all-caught-up : ((q : ℕ) → AtGlobal d q) → caught_up m ≡ true
  all-caught-up all =
      every_of _ m.processes no_process
      (λ q _. imply (in_epochs (process_of m q)) _ (λ u. eq-eqb _ _ (words-at 0 1 q (all q) u)))

  -- the global epoch goes on
  advances : caught_up m ≡ true → Moved c Manage d s (accepted (effect 0 (with_epoch m (next_epoch g))))
  advances h =
      record {
        kept = record { node = refl; params = refl; nearer = omega (arith, less); same = λ e. absurd (omega (arith, less)) };
        acts = λ q. inr (record { comes = λ e. absurd (omega (arith, less)); goes_on = λ _ _ e. omega (arith, less) });
      }
    where
      part : in_epochs (process_of m o) ≡ true
      part = words-part 0 1 o ∙ owner-there d i c retired

      at : (process_of m o).epoch ≡ g
      at =
          let there = inside (λ x. in_epochs x ≡ true) m.processes o no_process false≢true part in
          let t = implied _ _ (every_in _ m.processes o no_process h there) part in
          omega (arith, i.epoch, eqb-true)

      less : distance (with_epoch m (next_epoch g)) c < distance d c
      less = rw (at, sym (words-epoch 0 1 o) ∙ at) (distance-closer g l i.epoch limbo-small)

  -- it stays, and p has come to it
  waits : (process_of m p).epoch ≡ g → caught_up m ≡ false → Moved c Manage d s (accepted (effect 0 m))
  waits e z =
      record {
        kept = record { node = refl; params = refl; nearer = omega (arith, far); same = λ _. words-at 0 1 };
        acts = each m (words-calls 0 1) (record { comes = λ _ _. e; goes_on = λ _ all _. false≢true (sym z ∙ all-caught-up all) });
      }
    where
      far : distance m c ≡ distance d c
      far = rw (words-epoch 0 1 o)

  -- p comes to it, and frees its list
  adopts : (process_of m p).epoch ≢ g → (node_of (adopt m p).after c).state ≢ Free → Moved c Manage d s (accepted (adopt m p))
  adopts ne live =
      record {
        kept = record { node = node'; params = refl; nearer = omega (arith, far); same = λ _. up };
        acts = each f (λ q n. ap (λ x. x.calls) (other q n) ∙ words-calls 0 1 q n)
            (record { comes = λ _ _. come; goes_on = λ _ all _. ne (words-at 0 1 p (all p) (words-part 0 1 p ∙ p-there)) });
      }
    where
      f : Domain
      f = (adopt m p).after

      come : (process_of (adopt m p).after p).epoch ≡ g
      come = ap (λ x. x.epoch) (get_or-set_same m.processes p _ no_process (rw length-set p-inside))

      other : (q : ℕ) → q ≢ p → process_of (adopt m p).after q ≡ process_of m q
      other q n = get_or-set_other m.processes p q _ no_process n

      up : (q : ℕ) → AtGlobal d q → AtGlobal (adopt m p).after q
      up q h = by-process (AtGlobal (adopt m p).after q) q p (λ e _. rw e come) (λ n. rw (other q n) (words-at 0 1 q h))

      node' : node_of (adopt m p).after c ≡ node_of d c
      node' = kept-by-sweep (expired m p) d.nodes c live

      away : o ≡ p → l ≢ g
      away e x =
          let z = rw (retired, eq-eqb o p e) at (passed_over (expired m p) d.nodes c live) in omega (arith, eqb-false)

      far : distance (adopt m p).after c ≡ distance d c
      far = rw node' (by-process (distance_of g (process_of (adopt m p).after o).epoch l ≡ distance_of g (process_of d o).epoch l) o p
          (λ e. distance-away g _ _ l (away e)) (λ n. rw (other o n, words-epoch 0 1 o)))

  -- it is counted, no more
  counts : called_by d s ≢ 0 → Moved c Manage d s (accepted (effect 0 (counted d s (called_by d s) (here d s).presence)))
  counts z =
      record {
        kept = record { node = refl; params = refl; nearer = omega (arith, far); same = λ _. words-at k v };
        acts = λ q. inl (record {
          stays = refl;
          calls = by-process (calls_of (counted d s k v) q ≡ calls_of d q + turn q Manage s 0) q p
              (λ e. rw (e, eq-eqb p p refl) (ap (λ x. x.calls) (get_or-set_same d.processes p _ no_process p-inside)
              ∙ next-call (here d s).calls d.params.quiescence_threshold (process-fits w p (asked.process refl)).words.calls z))
              (λ n. rw (ne_eqb p q (λ e. n (sym e))) (omega (arith, words-calls k v q n)));
        });
      }
    where
      k : ℕ
      k = called_by d s

      v : ℕ
      v = (here d s).presence

      far : distance (counted d s k v) c ≡ distance d c
      far = rw (words-epoch k v o)

  pub managed : d.path ≡ Fast → (node_of (act Manage d s).after c).state ≢ Free → Moved c Manage d s (accepted (act Manage d s))
  managed fast =
      by-manage (λ e. (node_of e.after c).state ≢ Free → Moved c Manage d s (accepted e)) d s
      (λ _ e. absurd (omega arith))
      (λ _ e. absurd (omega arith))
      (λ _ _. by-quiescent (λ e. (node_of e.after c).state ≢ Free → Moved c Manage d s (accepted e)) m p
      (λ _ h _. advances h) (λ e z _. waits e z) adopts)
      (λ z _. counts z)
