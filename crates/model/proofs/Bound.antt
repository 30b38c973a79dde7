-- The second half of demand 3, for one step: what has been retired bounds what is Retired. Assumes nothing.
use Prim.Native.Nat.{ℕ, suc, ◌+◌, ◌-◌, ◌*◌, ◌<◌, ◌≤◌}
use mathlib.Core.Bool.{Bool, true, false, not, ◌&&◌, cond, true≢false, false≢true}
use mathlib.Core.List.{map}
use mathlib.Core.Path.{◌≡◌, refl, sym, ◌∙◌, ap, subst}
use mathlib.Core.Logic.{◌≢◌}
use native.Mathlib.Omega.{arith}
use native.Mathlib.Nat.{le_refl, le_trans}
use borrow.Author.Tests.{ne_eqb, ltb-false, leb-false, le-leb, not-true}
use lib.ListN.{set}
use lib.Dec.{leb}
use Rattle.lists.specs.Tests.{count, lacks}
use Rattle.lists.proofs.Bools.{both, by_cond}
use Rattle.lists.proofs.Counts.{count-mono, count_map, count-changed, count_set, count-set-one, count-replicate}
use Rattle.lists.proofs.Counts.{count-repeat}
use Rattle.lists.proofs.Sweeps.{count-sweep, count_left, sweep-within}
use Rattle.lists.proofs.Pigeonhole.{named-places}
use Rattle.model.specs.Params.{Params, delay}
use Rattle.model.specs.State.{Node, Domain, Step, Fast, free_node, node_of, process_of, with_path}
use Rattle.model.specs.Kinds.{Kind, kind_of, number_of, Allocate, Publish, Protect, Check, Use, Clear}
use Rattle.model.specs.Kinds.{Remove, Retire, Drain, Flush, Tick, Manage, ClearPresence, Reinsert, Leave, Join}
use Rattle.model.specs.Kinds.{Portion, Unknown}
use Rattle.model.specs.Hazards.{here}
use Rattle.model.specs.Retire.{retired_by, aged, visible_to, due, due_in, freeing, scan, retiring, marked}
use Rattle.model.specs.Retire.{overfull, fall_back, reclaim}
use Rattle.model.specs.Epochs.{expired, quiescent, counted, manage}
use Rattle.model.specs.Leave.{handed, leave}
use Rattle.model.specs.Machine.{Outcome, refused, accepted, act, step, fresh}
use Rattle.model.specs.Reference.{Reference}
use Rattle.model.specs.Claims.{Retirement, History, no_history, noted, recorded, unfreed, retired_since, bound}
use Rattle.model.proofs.Walk.{Asked, acting, by-step, by-reclaim, by-quiescent, by-manage}
use Rattle.model.proofs.KindNumbers.{at_kind, at_kind_lem}
use Rattle.model.proofs.Invariant.{Inv}
use Rattle.model.proofs.Unclaimed.{visible-count, marked-ok}
use Rattle.model.proofs.Preserved.{fall_back_lem}

-- the Retired nodes of p that were retired at a clock of at least t
abbrev retired_by_after : ℕ → ℕ → Node → Bool
retired_by_after p t n = retired_by p n && leb t n.retired_at

-- the history fits the domain: the ticks are its clock, and what is Retired has been retired
pub record Fits (a : Params) (d : Domain) (h : History) : Type 0 where
  pub params : d.params ≡ a
  pub ticks : h.ticks ≡ d.clock
  pub logged : (p t : ℕ) → count (retired_by_after p t) d.nodes ≤ count (retired_since p t) h.retirements

pub record Past (a : Params) (q : Reference) (s : Step) (h : History) (o : Outcome) : Type 0 where
  pub fits : Fits a o.after (recorded q s o h)
  pub bounded : o.refusal ≡ 0 → s.kind ≡ 8 → count (retired_by s.process) o.after.nodes ≤ bound a (recorded q s o h) s.process

-- ---- an effect that retires nothing

record Quiet (d d' : Domain) : Type 0 where
  params : d'.params ≡ d.params
  clock : d'.clock ≡ d.clock
  nodes : (p t : ℕ) → count (retired_by_after p t) d'.nodes ≤ count (retired_by_after p t) d.nodes

quiet-fits : (a : Params) (d d' : Domain) (h : History) → Quiet d d' → Fits a d h → Fits a d' h
quiet-fits a d d' h q f =
    record {
      params = q.params ∙ f.params;
      ticks = f.ticks ∙ sym q.clock;
      logged = λ p t. le_trans (q.nodes p t) (f.logged p t);
    }

-- the nodes are as they were
quiet_same : (d d' : Domain) → d'.params ≡ d.params → d'.clock ≡ d.clock → d'.nodes ≡ d.nodes → Quiet d d'
quiet_same d d' p c n = record { params = p; clock = c; nodes = λ _ _. rw n (le_refl _) }

-- one node changes, and is not Retired after
quiet-node : (d : Domain) (c : ℕ) (n : Node) → ((p : ℕ) → retired_by p n ≡ false) → Quiet d (record {
  params = d.params;
  clock = d.clock;
  path = d.path;
  epoch = d.epoch;
  processes = d.processes;
  nodes = set d.nodes c n;
})
quiet-node d c n f =
    record {
      params = refl;
      clock = refl;
      nodes = λ p t. count_set (retired_by_after p t) d.nodes c n free_node (λ e. absurd (true≢false (sym (both _ _ e).0 ∙ f p)));
    }

quiet-freeing : (d : Domain) (f : ℕ → Node → Bool) → Quiet d (freeing d f).after
quiet-freeing d f = record { params = refl; clock = refl; nodes = λ p t. count-sweep free_node f (retired_by_after p t) 0 d.nodes refl }

quiet-quiescent : (d m : Domain) (p : ℕ) → m.params ≡ d.params → m.clock ≡ d.clock → m.nodes ≡ d.nodes → Quiet d (quiescent m p).after
quiet-quiescent d m p q c n =
    by-quiescent (λ e. Quiet d e.after) m p (λ _ _. quiet_same d _ q c n) (λ _ _. quiet_same d m q c n)
    (λ _. let r = quiet-freeing m (expired m p) in
    record { params = q; clock = c; nodes = λ u t. le_trans (r.nodes u t) (rw n (le_refl _)) })

quiet-manage : (d : Domain) (s : Step) → Quiet d (manage d s).after
quiet-manage d s =
    by-manage (λ e. Quiet d e.after) d s
    (λ _ _ _. quiet-quiescent d (with_path (counted d s 0 1) Fast) s.process refl refl refl)
    (λ _ _ _. quiet_same d _ refl refl refl)
    (λ _ _. quiet-quiescent d (counted d s 0 1) s.process refl refl refl)
    (λ _. quiet_same d _ refl refl refl)

-- ---- a retire

module _ (a : Params) (d : Domain) (q : Reference) (s : Step) (h : History) (f : Fits a d h) where
  -- the node marked is the retirement noted
  marked-fits : (node_of d s.node).owner ≡ s.process → Fits a (marked d s) (noted q (at_kind Retire s) h)
  marked-fits ho = record { params = f.params; ticks = f.ticks; logged = λ p t. by p t (retired_since p t (record { process = s.process; clock = h.ticks })) refl }
    where
      n : Node
      n = retiring d.clock (here d s).epoch (node_of d s.node)

      alike : (p t : ℕ) → retired_by_after p t n ≡ retired_since p t (record { process = s.process; clock = h.ticks })
      alike p t = simp (ho, f.ticks)

      by : (p t : ℕ) (b : Bool) → retired_since p t (record { process = s.process; clock = h.ticks }) ≡ b
          → count (retired_by_after p t) (set d.nodes s.node n) ≤ cond b 1 0 + count (retired_since p t) h.retirements
      by p t true e = omega (arith, count-set-one (retired_by_after p t) d.nodes s.node n, f.logged p t)
      by p t false e =
          omega (arith, count_set (retired_by_after p t) d.nodes s.node n free_node (λ x. absurd (false≢true (sym e ∙ sym (alike p t) ∙ x))), f.logged p t)

-- ---- a leave

module _ (a : Params) (d : Domain) (q : Reference) (s : Step) (h : History) (f : Fits a d h) where
  -- what a leave notes for each node handed over
  abbrev passing : Retirement
  passing = record { process = s.node; clock = h.ticks }

  abbrev handing : Node → Node
  handing = handed s.process s.node d.clock (process_of d s.node).epoch

  -- a node that is the leaver's counts as it is noted, and every other as before
  noted-as : (p t : ℕ) (n : Node) → retired_since p t passing ≡ false → retired_by_after p t (handing n) ≡ true → retired_by_after p t n ≡ true
  noted-as p t n e =
      by_cond (λ (x : Node). retired_by_after p t x ≡ true → retired_by_after p t n ≡ true) (retired_by s.process n)
      (λ _ x. absurd (false≢true (sym e ∙ simp f.ticks x))) (λ _ x. x)

  as_it_was : (n : Node) → retired_by s.process n ≡ false → handing n ≡ n
  as_it_was n e = rw e

  -- the nodes handed over are the retirements noted
  handed-fits : count (unfreed s.process) q.cells ≡ count (retired_by s.process) d.nodes
      → Fits a (leave d s.process s.node) (noted q (at_kind Leave s) h)
  handed-fits shown =
      record {
        params = f.params;
        ticks = f.ticks;
        logged = λ p t. rw (count-repeat (retired_since p t) (count (unfreed s.process) q.cells) passing h.retirements, shown)
            (by p t (retired_since p t passing) refl);
      }
    where
      by : (p t : ℕ) (b : Bool) → retired_since p t passing ≡ b
          → count (retired_by_after p t) (map handing d.nodes)
          ≤ cond b (count (retired_by s.process) d.nodes) 0 + count (retired_since p t) h.retirements
      by p t true e = omega (arith, count-changed (retired_by_after p t) (retired_by s.process) handing d.nodes as_it_was, f.logged p t)
      by p t false e =
          rw (count_map (retired_by_after p t) handing d.nodes)
          (omega (arith, count-mono (λ n. retired_by_after p t (handing n)) (retired_by_after p t) d.nodes (λ n. noted-as p t n e), f.logged p t))

-- what a scan leaves: the nodes that are not aged, and those in hazards as its process sees them
scan-left : (a : Params) (d : Domain) (h : History) (p : ℕ) → Inv d → Fits a d h
    → count (retired_by p) (scan d p).after.nodes ≤ a.processes * a.hazards + count (retired_since p (h.ticks - delay a)) h.retirements
scan-left a d h p i f =
    rw (sweep-within free_node (due d p) d.params.nodes 0 d.nodes (omega (arith, i.shape.nodes)), ← f.params, f.ticks)
    (let left = count_left free_node (retired_by p) (aged d) (λ c. lacks (visible_to d p) (suc c)) 0 d.nodes refl in
    let young' = count-mono (λ n. retired_by p n && not (aged d n)) (retired_by_after p (d.clock - delay d.params)) d.nodes recent in
    let seen = named-places (visible_to d p) 0 d.nodes in
    let places = rw i.shape.processes at (visible-count p 0 d.processes d.params.hazards i.shape.hazards) in
    let log = f.logged p (d.clock - delay d.params) in
    omega arith)
  where
    recent : (n : Node) → (retired_by p n && not (aged d n)) ≡ true → retired_by_after p (d.clock - delay d.params) n ≡ true
    recent n e =
        let b = both (retired_by p n) (not (aged d n)) e in
        let y : aged d n ≡ false = not-true (aged d n) b.1 in
        rw b.0 (le-leb (d.clock - delay d.params) n.retired_at (omega (arith, ltb-false)))

-- ---- the steps

module _ (a : Params) (q : Reference) (h : History) where
  past-refused : (d : Domain) (s : Step) → Fits a d h → (n : ℕ) → n ≢ 0 → Past a q s h (refused n d)
  past-refused d s f n z = record { fits = rw (ne_eqb n 0 z) f; bounded = λ e. absurd (z e) }

  past-quiet : (k : Kind) (d : Domain) (s : Step) → Fits a d h → noted q (at_kind k s) h ≡ h → (number_of k ≡ 8 → ⊥)
      → Quiet d (act k d s).after → Past a q (at_kind k s) h (accepted (act k d s))
  past-quiet k d s f e no' c = record { fits = rw e (quiet-fits a d _ h c f); bounded = λ _ x. absurd (no' x) }

  past-scan : (d : Domain) (s : Step) → Inv d → Fits a d (noted q (at_kind Retire s) h)
      → Past a q (at_kind Retire s) h (accepted (scan d s.process))
  past-scan d s i f =
      record {
        fits = quiet-fits a d _ _ (quiet-freeing d (due_in d s.process 0 d.params.nodes)) f;
        bounded = λ _ _. omega (arith, scan-left a d (noted q (at_kind Retire s) h) s.process i f);
      }

  past-reclaim : (d : Domain) (s : Step) → Inv d → Fits a d (noted q (at_kind Retire s) h)
      → Past a q (at_kind Retire s) h (accepted (reclaim d s.process))
  past-reclaim d s i f =
      by-reclaim (λ e. Past a q (at_kind Retire s) h (accepted e)) d s.process
      (λ _. past-scan d s i f)
      (λ _ _. past-scan (fall_back d) s (fall_back_lem d i) (record { params = f.params; ticks = f.ticks; logged = f.logged }))
      (λ _ few. record { fits = f; bounded = λ _ _. under few })
    where
      under : overfull d s.process ≡ false → count (retired_by s.process) d.nodes ≤ bound a (noted q (at_kind Retire s) h) s.process
      under few =
          let less : count (retired_by s.process) d.nodes < d.params.fallback_threshold = omega (arith, leb-false) in
          let c = ap (λ (x : Params). x.fallback_threshold) f.params in
          omega arith

  -- the reference has as many unfreed retired nodes of each process as the domain
  abbrev Shows : Domain → Type 0
  Shows d = (p : ℕ) → count (unfreed p) q.cells ≡ count (retired_by p) d.nodes

  past-as : (k : Kind) (d : Domain) (s : Step) → Inv d → Fits a d h → Shows d → Asked k d s → Past a q (at_kind k s) h (accepted (act k d s))
  past-as Allocate d s i f w r = past-quiet Allocate d s f refl (λ e. absurd (omega arith)) (quiet-node d s.node _ (λ _. refl))
  past-as Publish d s i f w r = past-quiet Publish d s f refl (λ e. absurd (omega arith)) (quiet-node d s.node _ (λ _. refl))
  past-as Protect d s i f w r = past-quiet Protect d s f refl (λ e. absurd (omega arith)) (quiet_same d _ refl refl refl)
  past-as Check d s i f w r = past-quiet Check d s f refl (λ e. absurd (omega arith)) (quiet_same d _ refl refl refl)
  past-as Use d s i f w r = past-quiet Use d s f refl (λ e. absurd (omega arith)) (quiet_same d _ refl refl refl)
  past-as Clear d s i f w r = past-quiet Clear d s f refl (λ e. absurd (omega arith)) (quiet_same d _ refl refl refl)
  past-as Remove d s i f w r = past-quiet Remove d s f refl (λ e. absurd (omega arith)) (quiet-node d s.node _ (λ _. refl))
  past-as Retire d s i f w r =
      past-reclaim (marked d s) s (marked-ok d s i (r.process refl) (acting Retire d s r refl refl) (r.owner refl)) (marked-fits a d q s h f (r.owner refl))
  past-as Drain d s i f w r = past-quiet Drain d s f refl (λ e. absurd (omega arith)) (quiet_same d _ refl refl refl)
  past-as Flush d s i f w r = past-quiet Flush d s f refl (λ e. absurd (omega arith)) (quiet_same d _ refl refl refl)
  past-as Tick d s i f w r =
      record {
        fits = record { params = f.params; ticks = ap (λ n. n + 1) f.ticks; logged = f.logged };
        bounded = λ _ e. absurd (omega arith);
      }
  past-as Manage d s i f w r = past-quiet Manage d s f refl (λ e. absurd (omega arith)) (quiet-manage d s)
  past-as ClearPresence d s i f w r = past-quiet ClearPresence d s f refl (λ e. absurd (omega arith)) (quiet_same d _ refl refl refl)
  past-as Reinsert d s i f w r = past-quiet Reinsert d s f refl (λ e. absurd (omega arith)) (quiet-node d s.node _ (λ _. refl))
  past-as Leave d s i f w r =
      record { fits = handed-fits a d q s h f (w s.process); bounded = λ _ e. absurd (omega arith) }
  past-as Join d s i f w r = past-quiet Join d s f refl (λ e. absurd (omega arith)) (quiet_same d _ refl refl refl)
  past-as Portion d s i f w r = past-quiet Portion d s f refl (λ e. absurd (omega arith)) (quiet-freeing d _)
  past-as Unknown d s i f w r = absurd (true≢false r.known)

  pub past-step : (d : Domain) (s : Step) → Inv d → Fits a d h → Shows d → Past a q s h (step d s)
  unfolding step
  past-step d s i f w =
      by-step (kind_of s.kind) d s (Past a q s h) (past-refused d s f)
      (λ r. subst (λ t. Past a q t h (accepted (act (kind_of s.kind) d s))) (at_kind_lem s r.known) (past-as (kind_of s.kind) d s i f w r))

pub past-fresh : (a : Params) → Fits a (fresh a) no_history
unfolding fresh
past-fresh a =
    record { params = refl; ticks = refl; logged = λ p t. omega (arith, count-replicate (retired_by_after p t) a.nodes free_node refl) }
