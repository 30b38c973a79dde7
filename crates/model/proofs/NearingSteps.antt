-- Every step on the fast path by which a Retired node's owner does not leave: a node that it does not free stays as it is and comes no further
-- from being freed. Assumes nothing.
use Prim.Native.Nat.{ℕ}
use mathlib.Core.Bool.{true, false, not, ◌&&◌, false≢true}
use mathlib.Core.Path.{◌≡◌, refl, sym, ◌∙◌, ap}
use mathlib.Core.Logic.{◌≢◌, ◌⊎◌, inl, inr}
use native.Mathlib.Omega.{arith}
use borrow.Author.Tests.{eqb-true, eqb-false, ne_eqb, not-true}
use lib.Seq.{get_or-set_other}
use lib.Dec.{eqb}
use Rattle.lists.proofs.Bools.{by_cond}
use Rattle.lists.proofs.Stores.{set_cases, set_keeps}
use Rattle.model.specs.State.{Process, Node, Domain, Step, Free, Retired, Fast, no_process}
use Rattle.model.specs.State.{node_of, process_of, set_node, set_process, in_epochs}
use Rattle.model.specs.WellFormed.{WellFormed}
use Rattle.model.specs.Kinds.{Kind, is, Allocate, Publish, Protect, Check, Use, Clear, Remove, Retire}
use Rattle.model.specs.Kinds.{Drain, Flush, Tick, Manage, ClearPresence, Reinsert, Leave, Join, Portion}
use Rattle.model.specs.Kinds.{Unknown}
use Rattle.model.specs.Hazards.{here}
use Rattle.model.specs.Retire.{effect, retired_by, marked}
use Rattle.model.specs.Machine.{Outcome, accepted, act, step_as}
use Rattle.model.proofs.Walk.{Asked, by-step, by-reclaim}
use Rattle.model.proofs.Handed.{handed-at}
use Rattle.model.proofs.Freeing.{retired_by_lem}
use Rattle.model.proofs.Invariant.{Inv}
use Rattle.model.proofs.Distance.{distance}
use Rattle.model.proofs.Nearing.{AtGlobal, calls_of, owner-there, Counted, Acted, Moved, Same, same_refl}
use Rattle.model.proofs.Nearing.{same_set}
use Rattle.model.proofs.Nearing.{same-drained, same-flushed, same-absent, rests, still, still-refused}
use Rattle.model.proofs.Nearing.{other-node, kept-by-sweep, by-process}
use Rattle.model.proofs.NearingManage.{managed}

-- ---- every kind

module _ (c : ℕ) (d : Domain) (s : Step) (i : Inv d) (w : WellFormed d) (retired : (node_of d c).state ≡ Retired) (fast : d.path ≡ Fast) where
  -- where node s .node, in the state that kind k needs, is stored
  stores : (k : Kind) (n : ℕ) (x : Node) → is k Manage ≡ false → is k Leave ≡ false → (node_of d s.node).state ≡ n → n ≢ Retired
      → Moved c k d s (accepted (effect 0 (set_node d s.node x)))
  stores k n x m l e ne = still c k d s 0 _ m l refl refl (other-node d c s.node n x retired e ne) (λ q. same_refl _)

  -- where its process is stored
  writes : (k : Kind) (x : Process) → is k Manage ≡ false → is k Leave ≡ false → Same x (here d s) → Moved c k d s (accepted (effect 0 (set_process d s.process x)))
  writes k x m l h = still c k d s 0 _ m l refl refl refl (same_set d s.process x h)

  -- a joiner comes to the global epoch; it was absent, so by O it owns nothing
  joins : Asked Join d s → Moved c Join d s (accepted (act Join d s))
  joins a =
      rests c Join d s 0 _ refl refl refl refl refl
      (λ q. set_keeps (λ y. y.calls ≡ calls_of d q) d.processes s.process q _ no_process (λ e _. rw e) refl)
      (ap (λ x. x.epoch) (get_or-set_other d.processes s.process (node_of d c).owner _ no_process
      (λ e. absurd (omega (arith, a.present refl, eqb-true (here d s).present 1 (ap (λ q. in_epochs (process_of d q)) (sym e) ∙ owner-there d i c retired))))))
      (λ q h. set_keeps (λ y. in_epochs y ≡ true → y.epoch ≡ d.epoch) d.processes s.process q _ no_process (λ _ _ _. refl) h)

  retires : Asked Retire d s → (node_of (act Retire d s).after c).state ≢ Free → Moved c Retire d s (accepted (act Retire d s))
  retires a =
      let n = other-node d c s.node _ _ retired (a.state _ refl) (λ e. omega arith) in
      by-reclaim (λ e. (node_of e.after c).state ≢ Free → Moved c Retire d s (accepted e)) (marked d s) s.process
      (λ _ live. still c Retire d s _ _ refl refl refl refl (kept-by-sweep _ (marked d s).nodes c live ∙ n) (λ q. same_refl _))
      (λ _ _ live. still c Retire d s _ _ refl refl refl refl (kept-by-sweep _ (marked d s).nodes c live ∙ n) (same-absent d))
      (λ _ _ _. still c Retire d s _ _ refl refl refl refl n (λ q. same_refl _))

  -- a leaver that does not own the node: nobody waits for it any more
  leaves : Asked Leave d s → s.process ≢ (node_of d c).owner → Moved c Leave d s (accepted (act Leave d s))
  leaves a ne =
      record {
        kept = record { node = kept-node; params = refl; nearer = omega (arith, far); same = λ _. up };
        acts = λ q. by-process (Counted Leave s 0 d d' q ⊎ Acted c d d' q) q s.process
            (λ e. inr (record { comes = λ _ u. absurd (gone q e u); goes_on = λ o. absurd (ne (sym e ∙ o)) }))
            (λ z. inl (record { calls = ap (λ x. x.calls) (other q z) ∙ omega arith; stays = ne_eqb s.process q (λ e. z (sym e)) }));
      }
    where
      d' : Domain
      d' = (act Leave d s).after

      kept-node : node_of (act Leave d s).after c ≡ node_of d c
      kept-node = handed-at d s.process s.node c
          ∙ by_cond (λ (x : Node). x ≡ node_of d c) (retired_by s.process (node_of d c))
          (λ h. absurd (ne (sym (retired_by_lem s.process (node_of d c) h).1))) (λ _. refl)

      other : (q : ℕ) → q ≢ s.process → process_of (act Leave d s).after q ≡ process_of d q
      other q z = get_or-set_other d.processes s.process q _ no_process z

      gone : (q : ℕ) → q ≡ s.process → in_epochs (process_of (act Leave d s).after q) ≡ true → ⊥
      gone q e =
          set_cases (λ y. in_epochs y ≡ true → ⊥) d.processes s.process q _ no_process (rw w.process_count (a.process refl))
          (λ _ u. false≢true u) (λ z. absurd (z e))

      up : (q : ℕ) → AtGlobal d q → AtGlobal (act Leave d s).after q
      up q h = by-process (AtGlobal (act Leave d s).after q) q s.process (λ e u. absurd (gone q e u)) (λ z. rw (other q z) h)

      far : distance (act Leave d s).after c ≡ distance d c
      far = cc (kept-node, ap (λ x. x.epoch) (other (node_of d c).owner (λ e. ne (sym e))))

  did : (k : Kind) → Asked k d s → (is k Leave && eqb s.process (node_of d c).owner) ≡ false → (node_of (act k d s).after c).state ≢ Free → Moved c k d s (accepted (act k d s))
  did Allocate a _ _ = stores Allocate _ _ refl refl (a.state _ refl) (λ e. omega arith)
  did Publish a _ _ = stores Publish _ _ refl refl (a.state _ refl) (λ e. omega arith)
  did Protect a _ _ = writes Protect _ refl refl (record { epoch = refl; calls = refl; part = refl })
  did Check a _ _ = writes Check _ refl refl (record { epoch = refl; calls = refl; part = refl })
  did Use a _ _ = still c Use d s _ d refl refl refl refl refl (λ q. same_refl _)
  did Clear a _ _ = writes Clear _ refl refl (record { epoch = refl; calls = refl; part = refl })
  did Remove a _ _ = stores Remove _ _ refl refl (a.state _ refl) (λ e. omega arith)
  did Retire a _ live = retires a live
  did Drain a _ _ = writes Drain _ refl refl (same-drained (here d s) (here d s).buffer)
  did Flush a _ _ = writes Flush _ refl refl (same-flushed (here d s) (here d s).buffer)
  did Tick a _ _ = still c Tick d s _ _ refl refl refl refl refl (λ q. same_refl _)
  did Manage a _ live = managed c d s i w retired a fast live
  did ClearPresence a _ _ = still c ClearPresence d s _ _ refl refl refl refl refl (same-absent d)
  did Reinsert a _ _ = stores Reinsert _ _ refl refl (a.state _ refl) (λ e. omega arith)
  did Leave a z _ = leaves a (eqb-false _ _ z)
  did Join a _ _ = joins a
  did Portion a _ live = still c Portion d s _ _ refl refl refl refl (kept-by-sweep _ d.nodes c live) (λ q. same_refl _)
  did Unknown a _ _ = absurd (false≢true (sym a.known))

  -- a step that is no accepted leave of the owner
  abbrev Stays : Kind → Outcome → Type 0
  Stays k o = not (eqb o.refusal 0 && (is k Leave && eqb s.process (node_of d c).owner)) ≡ true

  pub moved : (k : Kind) → Stays k (step_as k d s) → (node_of (step_as k d s).after c).state ≢ Free → Moved c k d s (step_as k d s)
  moved k =
      by-step k d s (λ o. Stays k o → (node_of o.after c).state ≢ Free → Moved c k d s o)
      (λ n z _ _. still-refused c k d s n z) (λ a z. did k a (not-true _ z))
