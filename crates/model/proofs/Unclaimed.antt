-- No node that is freed is claimed: in a scan because of the buffers (clauses T, B and H), in a quiescent state because of the epochs
-- (clauses E and G). Assumes nothing.
use Prim.Native.Nat.{ℕ, zero, suc, ◌+◌, ◌*◌, ◌<◌, ◌≤◌}
use mathlib.Core.Bool.{Bool, true, false}
use mathlib.Core.List.{List, [], ◌∷◌}
use mathlib.Core.Path.{◌≡◌, refl, sym, ◌∙◌, ap}
use mathlib.Core.Logic.{◌≢◌}
use native.Mathlib.Omega.{arith}
use native.Mathlib.Nat.{zero-add, add-zero}
use borrow.Author.Tests.{eqb-true, ltb-true}
use lib.ListN.{length, get_or, length-map, length-append, get_or-map}
use lib.Dec.{eqb}
use Rattle.lists.specs.Tests.{All, lacks}
use Rattle.lists.proofs.Bools.{both, by_cond, implied}
use Rattle.lists.proofs.Facts.{all_map, every-at, every_in, every_append, inside}
use Rattle.lists.proofs.Pigeonhole.{lacks-at}
use Rattle.model.specs.Params.{delay}
use Rattle.model.specs.State.{Pending, Hazard, Process, Node, Domain, Step, empty_hazard, no_process, node_of}
use Rattle.model.specs.State.{process_of, hazard_of, with_epoch, is_present, in_epochs, next_epoch}
use Rattle.model.specs.Hazards.{here, latest, unassigned}
use Rattle.model.specs.Retire.{retired_by, own_from, visible_in, visible_from, visible_to, aged, due, within, due_in}
use Rattle.model.specs.Retire.{freeing, partial_scan, scan, retiring, marked}
use Rattle.model.specs.Epochs.{expired, caught_up, quiescent}
use Rattle.model.proofs.Walk.{by-quiescent}
use Rattle.model.proofs.Freeing.{retired_by_lem}
use Rattle.model.proofs.Invariant.{hazard_in, Timely, epoch_in, Inv, Claim, HeldBy}
use Rattle.model.proofs.Updates.{held_by, set_node_lem, sweep-nodes, set_process_lem, stays}

-- ---- what a scanning process sees: the two laws that a scan and the bound go by

-- N × K places
pub own-length : (b : List Pending) (h : ℕ) (hs : List Hazard) → length (own_from b h hs) ≡ length hs
own-length b h [] = refl
own-length b h (y ∷ ys) = ap suc (own-length b (suc h) ys)

pub visible-length : (own : Bool) (x : Process) → length (visible_in own x) ≡ length x.hazards
visible-length true x = own-length x.buffer 0 x.hazards
visible-length false x = length-map x.hazards _

-- its own process sees the node of the last store to hazard h
pub own_at : (b : List Pending) (i : ℕ) (hs : List Hazard) (h : ℕ) → h < length hs
    → get_or (own_from b i hs) h 0 ≡ latest b (i + h) (hazard_in hs h).visible
own_at b i [] h l = absurd (omega arith)
own_at b i (y ∷ ys) zero l = rw add-zero refl
own_at b i (y ∷ ys) (suc h) l =
    own_at b (suc i) ys h (omega arith) ∙ ap (λ (j : ℕ). latest b j (hazard_in ys h).visible) (omega arith)

-- a hazard that already shows what it will show once flushed is seen
visible-settled : (own : Bool) (x : Process) (h : ℕ) → h < length x.hazards
    → latest x.buffer h (hazard_of x h).visible ≡ (hazard_of x h).visible → get_or (visible_in own x) h 0 ≡ (hazard_of x h).visible
visible-settled true x h l e = rw zero-add at (own_at x.buffer 0 x.hazards h l) ∙ e
visible-settled false x h l e = get_or-map (λ y. y.visible) x.hazards h empty_hazard

pub visible-count : (p i : ℕ) (ps : List Process) (k : ℕ) → ((q : ℕ) → q < length ps → length (get_or ps q no_process).hazards ≡ k)
    → length (visible_from p i ps) ≡ length ps * k
visible-count p i [] k f = omega arith
visible-count p i (x ∷ xs) k f =
    length-append (visible_in (eqb i p) x) (visible_from p (suc i) xs)
    ∙ omega (arith, visible-length (eqb i p) x, f 0 (omega arith), visible-count p (suc i) xs k (λ q h. f (suc q) (omega arith)))

-- what is in no hazard is in none of process q
lacked-by : (p i : ℕ) (ps : List Process) (q v : ℕ) → lacks (visible_from p i ps) v ≡ true
    → (own : Bool) × (lacks (visible_in own (get_or ps q no_process)) v ≡ true)
lacked-by p i [] q v h = (false, refl)
lacked-by p i (x ∷ xs) zero v h = (eqb i p, (every_append _ (visible_in (eqb i p) x) (visible_from p (suc i) xs) h).0)
lacked-by p i (x ∷ xs) (suc q) v h = lacked-by p (suc i) xs q v (every_append _ (visible_in (eqb i p) x) (visible_from p (suc i) xs) h).1

-- ---- no hazard is assigned

pub bare : (x : Process) → unassigned x ≡ true → (h n : ℕ) → (hazard_of x h).assigned ≡ suc n → ⊥
bare x u h n a = let e = every-at _ x.hazards h empty_hazard u refl in omega (arith, eqb-true)

-- ---- the scan

-- by T, a hazard whose pending stores are older than the delay has none
settled : (clock wait at : ℕ) (b : List Pending) (h v : ℕ) → All (Timely clock wait) b → All (λ w. w.hazard ≡ h → w.time ≤ at) b
    → at + wait < clock → latest b h v ≡ v
settled clock wait at [] h v f k o = refl
settled clock wait at (w ∷ b) h v f k o =
    by_cond (λ u. latest b h u ≡ v) (eqb w.hazard h)
    (λ e. absurd (omega (arith, k.0 (eqb-true _ _ e), f.0.recent)))
    (λ _. settled clock wait at b h v f.1 k.1 o)

past-delay : (d : Domain) (n : Node) → aged d n ≡ true → n.retired_at + delay d.params < d.clock
past-delay d n h = omega (arith, ltb-true)

module _ (d : Domain) (i : Inv d) where
  -- by H and T the claim's store is committed and no other to that hazard is pending, so by B the node is visible, and the scan, whoever's
  -- it is, keeps it
  pub due-unclaimed : (p a b q h c : ℕ) → Claim d q h c → due_in d p a b c (node_of d c) ≡ true → ⊥
  due-unclaimed p a b q h c k t =
      let n = node_of d c in
      let x = process_of d q in
      let u = both (retired_by p n) _ (both (within a b c) (due d p c n) t).1 in
      let v = both (aged d n) (lacks (visible_to d p) (suc c)) u.1 in
      let l = (held_by d i q h c k).limbo (retired_by_lem p n u.0).0 in
      let still = settled d.clock (delay d.params) n.retired_at x.buffer h (hazard_of x h).visible (i.processes q).timely l.before (past-delay d n v.0) in
      let there : (hazard_of x h).visible ≡ suc c = sym still ∙ (i.processes q).arrives h ∙ k.assigned in
      let hazard = inside (λ y. y.validated ≡ 1) x.hazards h empty_hazard (λ e. omega arith) k.validated in
      let gone = lacked-by p 0 d.processes q (suc c) v.1 in
      lacks-at (visible_in gone.0 x) h (suc c) gone.1 (λ e. omega arith) (visible-settled gone.0 x h hazard still ∙ there)

  pub partial-ok : (p a b : ℕ) → Inv (partial_scan d p a b).after
  partial-ok p a b = sweep-nodes d i (due_in d p a b) (due-unclaimed p a b)

  pub scan-ok : (p : ℕ) → Inv (scan d p).after
  scan-ok p = partial-ok p 0 d.params.nodes

  -- ---- the quiescent state

  -- by G the owner of a claimed node on the global epoch's list is at that epoch, so it does not come there now
  pub expired-unclaimed : (p q h c : ℕ) → (process_of d p).epoch ≢ d.epoch → Claim d q h c → expired d p c (node_of d c) ≡ true → ⊥
  expired-unclaimed p q h c ne k t =
      let n = node_of d c in
      let u = both (retired_by p n) _ t in
      let o = retired_by_lem p n u.0 in
      let l = (held_by d i q h c k).limbo o.0 in
      let global : n.limbo ≡ d.epoch = omega (arith, eqb-true) in
      ne (ap (epoch_in d.processes) (sym o.1) ∙ l.home global)

  -- all local epochs have come to the global one: none is behind, so by G no claimed node is on the list of two epochs ago,
  -- which is the next global epoch's
  advance-ok : caught_up d ≡ true → Inv (with_epoch d (next_epoch d.epoch))
  advance-ok u =
      record {
        shape = record { processes = i.shape.processes; hazards = i.shape.hazards; nodes = i.shape.nodes };
        epoch = omega (arith, i.epoch);
        near = λ p k c. let e = at p k c in (omega (arith, i.epoch), omega (arith, i.epoch));
        processes = λ p. let o = i.processes p in record {
          arrives = o.arrives;
          timely = o.timely;
          aimed = o.aimed;
          counts = o.counts;
          held = λ h n v a. let e = at p (there p h v) (o.counts h n v a) in let k = o.held h n v a in record {
            published = k.published;
            limbo = λ r. let l = k.limbo r in record {
              before = l.before;
              home = λ x. absurd (l.behind x e);
              behind = λ x y. omega (arith, i.epoch);
            };
          };
        };
        owners = i.owners;
      }
    where
      -- only a process that is there has claims
      there : (p h : ℕ) → (hazard_of (process_of d p) h).validated ≡ 1 → p < length d.processes
      there p h = inside (λ x. (hazard_of x h).validated ≡ 1) d.processes p no_process (λ e. omega arith)

      at : (p : ℕ) → p < length d.processes → in_epochs (process_of d p) ≡ true → (process_of d p).epoch ≡ d.epoch
      at p k c = let t = implied _ _ (every_in _ d.processes p no_process u k) c in omega (arith, i.epoch, eqb-true)

  pub quiescent-ok : (p : ℕ) → p < d.params.processes → unassigned (process_of d p) ≡ true → Inv (quiescent d p).after
  quiescent-ok p hp u =
      by-quiescent (λ f. Inv f.after) d p
      (λ _. advance-ok)
      (λ _ _. i)
      (λ ne. let j = sweep-nodes d i (expired d p) (λ q h c. expired-unclaimed p q h c ne) in
      set_process_lem (freeing d (expired d p)).after j p _ hp refl
      (λ _. (i.epoch, omega (arith, i.epoch))) (λ _ _ _ _. refl) (stays (freeing d (expired d p)).after j p refl)
      (record {
        arrives = (i.processes p).arrives;
        timely = (i.processes p).timely;
        aimed = (i.processes p).aimed;
        counts = (i.processes p).counts;
        held = λ h n v a. absurd (bare (process_of d p) u h n a);
      }))

-- ---- a node is retired now: by T and E its claims have the facts of H and G

pub retired-now : (d : Domain) → Inv d → (o : ℕ) → o < d.params.processes → in_epochs (process_of d o) ≡ true → (n : Node)
    → n.owner ≡ o → (p h : ℕ) → HeldBy d p h (retiring d.clock (process_of d o).epoch n)
retired-now d i o ho ht n e p h =
    record {
      published = omega arith;
      limbo = λ _. record {
        before = all_map (Timely d.clock (delay d.params)) (λ w. w.hazard ≡ h → w.time ≤ d.clock) (process_of d p).buffer
            (λ w f _. f.past) (i.processes p).timely;
        home = λ g. ap (epoch_in d.processes) e ∙ g;
        behind = λ g. absurd ((i.near o (rw i.shape.processes ho) ht).1 g);
      };
    }

pub marked-ok : (d : Domain) (s : Step) → Inv d → s.process < d.params.processes → in_epochs (here d s) ≡ true
    → (node_of d s.node).owner ≡ s.process → Inv (marked d s)
marked-ok d s i hp ht ho =
    set_node_lem d i s.node (retiring d.clock (here d s).epoch (node_of d s.node))
    (λ _. ap (λ p. is_present (process_of d p)) ho ∙ ht)
    (λ p h _ _. retired-now d i s.process hp ht (node_of d s.node) ho p h)
