-- The first half of demand 3, for one step: the reference at the image of the domain can be led to the image of the domain after it.
-- Assumes nothing.
use Prim.Native.Nat.{ℕ, suc, ◌+◌}
use mathlib.Core.Bool.{Bool, true, false, cond, true≢false}
use mathlib.Core.List.{List, [], ◌∷◌, ◌++◌, map}
use mathlib.Core.Path.{◌≡◌, refl, sym, ◌∙◌, ap, subst}
use mathlib.Core.Logic.{◌≢◌}
use native.Mathlib.Omega.{arith}
use native.Mathlib.Nat.{zero-add, add-zero}
use borrow.Author.Tests.{ne_eqb}
use lib.ListN.{length, get_or, length-append}
use lib.Seq.{set_at, get_or_at, append_snoc}
use Rattle.lists.specs.Tests.{every}
use Rattle.lists.specs.Sweep.{sweep_from, places_from}
use Rattle.lists.proofs.Sweeps.{places-length}
use Rattle.model.specs.State.{Node, Domain, Step, Fast, Fallback, Retired, free_node, node_of, with_path}
use Rattle.model.specs.Kinds.{Kind, kind_of, number_of, Allocate, Publish, Protect, Check, Use, Clear}
use Rattle.model.specs.Kinds.{Remove, Retire, Drain, Flush, Tick, Manage, ClearPresence, Reinsert, Leave, Join}
use Rattle.model.specs.Kinds.{Portion, Unknown}
use Rattle.model.specs.Retire.{Effect, effect, due_in, freeing, partial_scan, scan, marked, fall_back, reclaim}
use Rattle.model.specs.Epochs.{expired, quiescent, counted, manage}
use Rattle.model.specs.Machine.{Outcome, refused, accepted, act, step}
use Rattle.model.specs.Reference.{Cell, Reference, empty_cell, pointer_at, asks, value_of, free_each}
use Rattle.model.specs.Reference.{EachFreeable}
use Rattle.model.specs.Claims.{command_of, led, freed_count}
use Rattle.model.proofs.Walk.{Asked, acting, by-step, by-reclaim, by-quiescent, by-manage}
use Rattle.model.proofs.KindNumbers.{at_kind, at_kind_lem}
use Rattle.model.proofs.Invariant.{Inv, Claim}
use Rattle.model.proofs.Updates.{with_path_lem}
use Rattle.model.proofs.Freeing.{due-retired, expired-retired}
use Rattle.model.proofs.Unclaimed.{due-unclaimed, expired-unclaimed, marked-ok}
use Rattle.model.proofs.Preserved.{fall_back_lem, counted-ok}
use Rattle.model.proofs.Image.{cell, image, before, pointer-there, yes-as, follow-as, value-at, same_row}
use Rattle.model.proofs.Image.{same-presence}

pub record Sim (d : Domain) (s : Step) (o : Outcome) : Type 0 where
  pub chosen : List ℕ
  pub questions : o.refusal ≡ 0 → every (λ b. b) (asks (image d) (command_of s)) ≡ true
  pub value : o.refusal ≡ 0 → s.kind ≡ 5 → value_of (image d) (command_of s) ≡ o.value
  pub many : length chosen ≡ freed_count s o
  pub freeable : EachFreeable (led (image d) s o) chosen
  pub lands : free_each (led (image d) s o) chosen ≡ image o.after

sim-refused : (d : Domain) (s : Step) (n : ℕ) → n ≢ 0 → Sim d s (refused n d)
sim-refused d s n h =
    record {
      chosen = [];
      questions = λ e. absurd (h e);
      value = λ e. absurd (h e);
      many = rw (ne_eqb n 0 h);
      freeable = tt;
      lands = rw (ne_eqb n 0 h);
    }

-- ---- the frees of a sweep, one after another

-- the reference with these cells
abbrev with_cells : Reference → List Cell → Reference
with_cells q cs = record { processes = q.processes; hazards = q.hazards; nodes = q.nodes; cells = cs; pointers = q.pointers }

abbrev Unclaimed : Reference → ℕ → Type 0
Unclaimed q c = (p h : ℕ) → (pointer_at q p h).validated ≡ 1 → (pointer_at q p h).assigned ≡ suc c → ⊥

record Frees (q : Reference) (cs : List ℕ) (r : Reference) : Type 0 where
  freeable : EachFreeable q cs
  lands : free_each q cs ≡ r

-- the cells before place i are done
sweeping : (q : Reference) (f : ℕ → Node → Bool) (i : ℕ) (ns : List Node) (pre : List Cell) → length pre ≡ i
    → ((c : ℕ) (n : Node) → f c n ≡ true → n.state ≡ Retired)
    → ((c : ℕ) → f (i + c) (get_or ns c free_node) ≡ true → Unclaimed q (i + c))
    → Frees (with_cells q (pre ++ map cell ns)) (places_from f i ns) (with_cells q (pre ++ map cell (sweep_from free_node f i ns)))
sweeping q f i [] pre l st un = record { freeable = tt; lands = refl }
sweeping q f i (n ∷ ns) pre l st un =
    by (f i n) refl (sweeping q f (suc i) ns (pre ++ (empty_cell ∷ [])) (long empty_cell) st later)
    (sweeping q f (suc i) ns (pre ++ (cell n ∷ [])) (long (cell n)) st later)
  where
    long : (a : Cell) → length (pre ++ (a ∷ [])) ≡ suc i
    long a = simp length-append (omega arith)

    later : (c : ℕ) → f (suc i + c) (get_or ns c free_node) ≡ true → Unclaimed q (suc i + c)
    later c h =
        let e : suc i + c ≡ i + suc c = omega arith in
        rw e (un (suc c) (rw e at h))

    first : f i n ≡ true → Unclaimed q i
    first h = rw add-zero at (un 0 (rw add-zero h))

    by : (b : Bool) → f i n ≡ b
        → Frees (with_cells q (pre ++ (empty_cell ∷ []) ++ map cell ns)) (places_from f (suc i) ns) (with_cells q (pre ++ (empty_cell ∷ []) ++ map cell (sweep_from free_node f (suc i) ns)))
        → Frees (with_cells q (pre ++ (cell n ∷ []) ++ map cell ns)) (places_from f (suc i) ns) (with_cells q (pre ++ (cell n ∷ []) ++ map cell (sweep_from free_node f (suc i) ns)))
        → Frees (with_cells q (pre ++ cell n ∷ map cell ns)) (cond b (i ∷ places_from f (suc i) ns) (places_from f (suc i) ns))
        (with_cells q (pre ++ map cell (cond b free_node n ∷ sweep_from free_node f (suc i) ns)))
    by true e new old =
        let there = set_at pre (cell n) (map cell ns) empty_cell i l in
        let at = get_or_at pre (cell n) (map cell ns) empty_cell i l in
        let r = simp append_snoc at new in
        record {
          freeable = (record { retired = rw at (st i n e); unclaimed = first e }, rw there r.freeable);
          lands = ap (λ cs. free_each (with_cells q cs) (places_from f (suc i) ns)) there ∙ r.lands;
        }
    by false e new old = simp append_snoc at old

-- ---- from the reference q, frees lead to the image of what an effect leaves, as many as it reports

record Led (q : Reference) (e : Effect) : Type 0 where
  chosen : List ℕ
  many : length chosen ≡ e.value
  freeable : EachFreeable q chosen
  lands : free_each q chosen ≡ image e.after

led-none : (q : Reference) (d : Domain) → q ≡ image d → Led q (effect 0 d)
led-none q d e = record { chosen = []; many = refl; freeable = tt; lands = e }

-- a sweep of Retired nodes that nobody claims
led-freeing : (d : Domain) (f : ℕ → Node → Bool) → ((c : ℕ) (n : Node) → f c n ≡ true → n.state ≡ Retired)
    → ((p h c : ℕ) → Claim d p h c → f c (node_of d c) ≡ true → ⊥) → Led (image d) (freeing d f)
led-freeing d f st un =
    let r = sweeping (image d) f 0 d.nodes [] refl st loose in
    record { chosen = places_from f 0 d.nodes; many = places-length f 0 d.nodes; freeable = r.freeable; lands = r.lands }
  where
    loose : (c : ℕ) → f (0 + c) (node_of d c) ≡ true → Unclaimed (image d) (0 + c)
    loose c h p t v a =
        un p t c (record {
          validated = sym (ap (λ x. x.validated) (pointer-there d p t)) ∙ v;
          assigned = sym (ap (λ x. x.assigned) (pointer-there d p t)) ∙ rw zero-add at a;
        }) (rw zero-add at h)

led-partial : (d : Domain) → Inv d → (p a b : ℕ) → Led (image d) (partial_scan d p a b)
led-partial d i p a b = led-freeing d (due_in d p a b) (due-retired d p a b) (due-unclaimed d i p a b)

led-scan : (d : Domain) → Inv d → (p : ℕ) → Led (image d) (scan d p)
led-scan d i p = led-partial d i p 0 d.params.nodes

led-reclaim : (d : Domain) → Inv d → (p : ℕ) → Led (image d) (reclaim d p)
led-reclaim d i p =
    by-reclaim (Led (image d)) d p
    (λ _. led-scan d i p)
    (λ _ _. subst (λ q. Led q (scan (fall_back d) p)) (same-presence (with_path d Fallback)) (led-scan (fall_back d) (fall_back_lem d i) p))
    (λ _ _. led-none (image d) d refl)

led-quiescent : (d : Domain) → Inv d → (p : ℕ) → Led (image d) (quiescent d p)
led-quiescent d i p =
    by-quiescent (Led (image d)) d p
    (λ _ _. led-none (image d) _ refl)
    (λ _ _. led-none (image d) d refl)
    (λ ne. let r = led-freeing d (expired d p) (expired-retired d p) (λ q h c. expired-unclaimed d i p q h c ne) in
    record {
      chosen = r.chosen;
      many = r.many;
      freeable = r.freeable;
      lands = r.lands ∙ sym (same_row (freeing d (expired d p)).after p _ refl);
    })

led-manage : (d : Domain) (s : Step) → Inv d → Asked Manage d s → Led (image d) (manage d s)
led-manage d s i a =
    by-manage (Led (image d)) d s
    (λ _ _ _. subst (λ q. Led q (quiescent (with_path m Fast) s.process)) same (led-quiescent (with_path m Fast) (with_path_lem m j Fast) s.process))
    (λ _ _ _. led-none (image d) m (sym same))
    (λ _ _. subst (λ q. Led q (quiescent m s.process)) same (led-quiescent m j s.process))
    (λ _. led-none (image d) _ (sym (same_row d s.process _ refl)))
  where
    m : Domain
    m = counted d s 0 1

    j : Inv m
    j = counted-ok d s i (a.process refl) 0 1

    same : image m ≡ image d
    same = same_row d s.process _ refl

-- ---- the steps

module _ (k : Kind) (d : Domain) (s : Step) (a : Asked k d s) where
  -- a kind that frees
  sim-led : freed_count (at_kind k s) (accepted (act k d s)) ≡ (act k d s).value → (number_of k ≡ 5 → ⊥)
      → Led (image (before k d s)) (act k d s) → Sim d (at_kind k s) (accepted (act k d s))
  sim-led c no' l =
      record {
        chosen = l.chosen;
        questions = λ _. yes-as k d s a;
        value = λ _ e. absurd (no' e);
        many = l.many ∙ sym c;
        freeable = rw (follow-as k d s) l.freeable;
        lands = ap (λ q. free_each q l.chosen) (follow-as k d s) ∙ l.lands;
      }

  -- a kind that frees nothing
  sim-still : freed_count (at_kind k s) (accepted (act k d s)) ≡ 0 → (number_of k ≡ 5 → value_of (image d) (command_of (at_kind k s)) ≡ (act k d s).value)
      → image (before k d s) ≡ image (act k d s).after → Sim d (at_kind k s) (accepted (act k d s))
  sim-still c v e =
      record {
        chosen = [];
        questions = λ _. yes-as k d s a;
        value = λ _ q. v q;
        many = sym c;
        freeable = tt;
        lands = follow-as k d s ∙ e;
      }

sim-as : (k : Kind) (d : Domain) (s : Step) → Inv d → Asked k d s → Sim d (at_kind k s) (accepted (act k d s))
sim-as Allocate d s i a = sim-still Allocate d s a refl (λ e. absurd (omega arith)) refl
sim-as Publish d s i a = sim-still Publish d s a refl (λ e. absurd (omega arith)) refl
sim-as Protect d s i a = sim-still Protect d s a refl (λ e. absurd (omega arith)) refl
sim-as Check d s i a = sim-still Check d s a refl (λ e. absurd (omega arith)) refl
sim-as Use d s i a = sim-still Use d s a refl (λ _. value-at d (at_kind Use s)) refl
sim-as Clear d s i a = sim-still Clear d s a refl (λ e. absurd (omega arith)) refl
sim-as Remove d s i a = sim-still Remove d s a refl (λ e. absurd (omega arith)) refl
sim-as Retire d s i a =
    sim-led Retire d s a refl (λ e. absurd (omega arith))
    (led-reclaim (marked d s) (marked-ok d s i (a.process refl) (acting Retire d s a refl refl) (a.owner refl)) s.process)
sim-as Drain d s i a = sim-still Drain d s a refl (λ e. absurd (omega arith)) refl
sim-as Flush d s i a = sim-still Flush d s a refl (λ e. absurd (omega arith)) refl
sim-as Tick d s i a = sim-still Tick d s a refl (λ e. absurd (omega arith)) refl
sim-as Manage d s i a = sim-led Manage d s a refl (λ e. absurd (omega arith)) (led-manage d s i a)
sim-as ClearPresence d s i a = sim-still ClearPresence d s a refl (λ e. absurd (omega arith)) refl
sim-as Reinsert d s i a = sim-still Reinsert d s a refl (λ e. absurd (omega arith)) refl
sim-as Leave d s i a = sim-still Leave d s a refl (λ e. absurd (omega arith)) refl
sim-as Join d s i a = sim-still Join d s a refl (λ e. absurd (omega arith)) refl
sim-as Portion d s i a = sim-led Portion d s a refl (λ e. absurd (omega arith)) (led-partial d i s.process s.node _)
sim-as Unknown d s i a = absurd (true≢false a.known)

pub sim-step : (d : Domain) (s : Step) → Inv d → Sim d s (step d s)
unfolding step
sim-step d s i =
    by-step (kind_of s.kind) d s (Sim d s) (sim-refused d s)
    (λ a. subst (λ t. Sim d t (accepted (act (kind_of s.kind) d s))) (at_kind_lem s a.known) (sim-as (kind_of s.kind) d s i a))
