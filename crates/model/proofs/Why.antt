-- Why a node waits: the first answer that is true, ready exactly where a scan by the owner frees, and the lowest process behind.
-- Assumes nothing.
use Prim.Native.Nat.{ℕ, suc, ◌+◌, ◌-◌, ◌<◌, ◌≤◌}
use mathlib.Core.Bool.{Bool, true, false, not, ◌&&◌, cond, false≢true, not-not}
use mathlib.Core.List.{List, [], ◌∷◌}
use mathlib.Core.Path.{◌≡◌, refl, sym, ap, ◌∙◌}
use mathlib.Core.Logic.{◌≢◌, ◌↔◌}
use native.Mathlib.Omega.{arith}
use native.Mathlib.Nat.{zero-add}
use borrow.Author.Tests.{eqb-true, eqb-false, eq-eqb, ne_eqb, ltb-true, ltb-false, lt-ltb, le-ltb, le-leb, not-true}
use borrow.Author.Tests.{not-false}
use lib.ListN.{length, get_or, get_or-eq_default}
use lib.Dec.{ltb, eqb}
use Rattle.lists.specs.Tests.{lacks}
use Rattle.lists.proofs.Bools.{by_cond, both}
use Rattle.lists.proofs.Facts.{every-at, inside, every-both}
use Rattle.lists.proofs.First.{first-at, first-before, first_found, none_from, first-lacks}
use Rattle.lists.proofs.Sweeps.{sweep-is}
use Rattle.model.specs.Params.{delay}
use Rattle.model.specs.State.{Process, Node, Domain, Retired, Fast, free_node, no_process, node_of, process_of}
use Rattle.model.specs.WellFormed.{WellFormed}
use Rattle.model.specs.Retire.{retired_by, visible_in, visible_from, visible_to, age_of, aged, due, within, due_in}
use Rattle.model.specs.Retire.{scan}
use Rattle.model.specs.Why.{Reason, NotRetired, Young, Visible, Ready, NotAsked, Nobody, Lagging}
use Rattle.model.specs.Why.{shown_at, shows, showing_process, showing_hazard, seen_by, ticks_left, reason_of, lags}
use Rattle.model.specs.Why.{laggard, behind_in, why}
use Rattle.model.specs.Claims.{Frees, TooYoung, LowestShowing, FirstTrue, KeepsUp, LowestBehind, WhyIsExact}
use Rattle.model.proofs.WellFormed.{process-fits}
use Rattle.model.proofs.Unclaimed.{visible-length}

-- ---- what the owner sees

none-shown : (p v i : ℕ) (ps : List Process) → none_from (shows p v) i ps ≡ lacks (visible_from p i ps) v
none-shown p v i [] = refl
none-shown p v i (x ∷ xs) =
    (λ t. not-not (lacks (visible_in (eqb i p) x) v) t && none-shown p v (suc i) xs t)
    ∙ sym (every-both (λ u. not (eqb u v)) (visible_in (eqb i p) x) (visible_from p (suc i) xs))

-- a process shows it where it is not lacked
pub shown-found : (d : Domain) (p v : ℕ) → ltb (showing_process d p v) (length d.processes) ≡ not (lacks (visible_to d p) v)
shown-found d p v =
    let e : 0 + length d.processes ≡ length d.processes = omega arith in
    ap (ltb (showing_process d p v)) (sym e) ∙ first_found (shows p v) 0 d.processes ∙ ap not (none-shown p v 0 d.processes)

-- of hazards that lack v, none shows it
no-hazard : (l : List ℕ) (v h : ℕ) → v ≢ 0 → lacks l v ≡ true → get_or l h 0 ≢ v
no-hazard l v h z e q =
    let other : not (eqb 0 v) ≡ true = ap not (ne_eqb 0 v (λ r. z (sym r))) in
    let f = every-at (λ u. not (eqb u v)) l h 0 e other in
    false≢true (ap not (sym (eq-eqb (get_or l h 0) v q)) ∙ f)

module _ (d : Domain) (p v : ℕ) (z : v ≢ 0) where
  -- a process below the first that shows it
  below : (q h : ℕ) → q < showing_process d p v → shown_at d p q h ≢ v
  below q h l =
      no-hazard (visible_in (eqb q p) (process_of d q)) v h z
      (not-false (lacks (visible_in (eqb q p) (process_of d q)) v)
      (rw (zero-add q) at (first-before (shows p v) 0 d.processes q no_process (omega arith))))

  -- where none shows it, no process does
  pub nowhere : lacks (visible_to d p) v ≡ true → (q h : ℕ) → shown_at d p q h ≢ v
  nowhere e q h = by (ltb q (length d.processes)) refl
    where
      all : length d.processes ≤ showing_process d p v
      all = ltb-false _ _ (shown-found d p v ∙ ap not e)

      past : (x : Process) → x ≡ no_process → (b : Bool) → get_or (visible_in b x) h 0 ≢ v
      past x f true r = z (sym r ∙ ap (λ (y : Process). get_or (visible_in true y) h 0) f)
      past x f false r = z (sym r ∙ ap (λ (y : Process). get_or (visible_in false y) h 0) f)

      by : (b : Bool) → ltb q (length d.processes) ≡ b → shown_at d p q h ≢ v
      by true l = let m = ltb-true q (length d.processes) l in below q h (omega (arith, m, all))
      by false l = past (process_of d q) (get_or-eq_default d.processes no_process (ltb-false _ _ l)) (eqb q p)

  -- the first that shows it, and what its hazards show
  abbrev first : ℕ
  first = showing_process d p v

  abbrev view : List ℕ
  view = visible_in (eqb first p) (process_of d first)

  module _ (w : WellFormed d) (e : lacks (visible_to d p) v ≡ false) where
    inside-processes : first < length d.processes
    inside-processes = ltb-true _ _ (shown-found d p v ∙ ap not e)

    shows-it : shows p v first (process_of d first) ≡ true
    shows-it =
        rw (zero-add first) at (first-at (shows p v) 0 d.processes first no_process (sym (zero-add first)) inside-processes)

    inside-hazards : showing_hazard d p v first < length view
    inside-hazards = ltb-true _ _ (first-lacks view v ∙ shows-it)

    -- the lowest process and its lowest hazard
    pub lowest : LowestShowing d p v first (showing_hazard d p v first)
    lowest =
        let few : first < d.params.processes = omega (arith, inside-processes, w.process_count) in
        let wide = visible-length (eqb first p) (process_of d first) ∙ (process-fits w first few).stores.width in
        record {
          process = few;
          hazard = omega (arith, inside-hazards, wide);
          shown = eqb-true _ _ (first-at (λ _ u. eqb u v) 0 view (showing_hazard d p v first) 0 (sym (zero-add _)) inside-hazards);
          lower = below;
          left = λ h m. eqb-false _ _ (first-before (λ _ u. eqb u v) 0 view h 0 (omega arith));
        }

-- ---- the four answers

module _ (d : Domain) (c : ℕ) (n : Node) where
  -- whatever holds of each answer in its case
  reason-cases : (P : Reason → Type 0)
      → (n.state ≢ Retired → P (NotRetired n.state))
      → (n.state ≡ Retired → aged d n ≡ false → P (Young (ticks_left d n)))
      → (n.state ≡ Retired → aged d n ≡ true → P (seen_by d n.owner (suc c)))
      → P (reason_of d c n)
  reason-cases P not' young seen =
      by_cond P _
      (λ r. by_cond P _ (λ o. seen (eqb-true _ _ r) o) (λ o. young (eqb-true _ _ r) o))
      (λ r. not' (eqb-false _ _ r))

  too-young : aged d n ≡ false → TooYoung d n (ticks_left d n)
  too-young o =
      let l = ltb-false (delay d.params) (age_of d n) o in
      record {
        some = omega arith;
        enough = lt-ltb (delay d.params) (age_of d n + ticks_left d n) (omega arith);
        short = le-ltb (delay d.params) (age_of d n + (ticks_left d n - 1)) (omega arith);
      }

  seen_true : WellFormed d → n.state ≡ Retired → aged d n ≡ true → FirstTrue d c n (seen_by d n.owner (suc c))
  seen_true w r o = by_cond (FirstTrue d c n) _ hidden shown
    where
      hidden : lacks (visible_to d n.owner) (suc c) ≡ true → FirstTrue d c n Ready
      hidden l = (r, o, nowhere d n.owner (suc c) (λ q. omega arith) l)

      shown : lacks (visible_to d n.owner) (suc c) ≡ false
          → FirstTrue d c n (Visible (showing_process d n.owner (suc c)) (showing_hazard d n.owner (suc c) (showing_process d n.owner (suc c))))
      shown l = (r, o, lowest d n.owner (suc c) (λ q. omega arith) w l)

  pub first-true : WellFormed d → FirstTrue d c n (reason_of d c n)
  first-true w =
      reason-cases (FirstTrue d c n)
      (λ r. (refl, r))
      (λ r o. (r, too-young o))
      (seen_true w)

  -- ---- ready

  -- 1 for ready
  readiness : Reason → ℕ
  readiness (NotRetired s) = 0
  readiness (Young t) = 0
  readiness (Visible q h) = 0
  readiness Ready = 1

  ready-due : reason_of d c n ≡ Ready → due d n.owner c n ≡ true
  unfolding readiness
  ready-due =
      let other : (r : Reason) → readiness r ≡ 0 → r ≡ Ready → due d n.owner c n ≡ true = λ r z e. absurd (omega (arith, z, ap readiness e)) in
      reason-cases (λ r. r ≡ Ready → due d n.owner c n ≡ true)
      (λ r. other _ refl)
      (λ r o. other _ refl)
      (λ r o. by_cond (λ r. r ≡ Ready → due d n.owner c n ≡ true) (lacks (visible_to d n.owner) (suc c))
      (λ l _. rw (eq-eqb _ _ r, eq-eqb n.owner n.owner refl, o, l))
      (λ l. other _ refl))

  due-ready : due d n.owner c n ≡ true → reason_of d c n ≡ Ready
  due-ready h =
      let a = both (retired_by n.owner n) _ h in
      let b = both (aged d n) _ a.1 in
      rw ((both (eqb n.state Retired) _ a.0).0, b.0, b.1)

-- what a scan by the owner leaves of node c
module _ (d : Domain) (w : WellFormed d) (c : ℕ) where
  abbrev node : Node
  node = node_of d c

  left_is : node_of (scan d node.owner).after c ≡ cond (within 0 d.params.nodes c && due d node.owner c node) free_node node
  left_is = rw (zero-add c) at (sweep-is free_node (due_in d node.owner 0 d.params.nodes) 0 d.nodes c)

  freed : due d node.owner c node ≡ true → Frees d node.owner c
  freed h =
      let retired = eqb-true _ _ (both (eqb node.state Retired) _ (both (retired_by node.owner node) _ h).0).0 in
      let in' = inside (λ m. m.state ≡ Retired) d.nodes c free_node (λ q. omega arith) retired in
      let gone : node_of (scan d node.owner).after c ≡ free_node =
      left_is ∙ rw (le-leb 0 c (omega arith), lt-ltb c d.params.nodes (omega (arith, in', w.node_count)), h) in
      record {
        before = λ q. omega (arith, q, retired);
        after = ap (λ m. m.state) gone;
      }

  frees-due : Frees d node.owner c → due d node.owner c node ≡ true
  frees-due f = by (within 0 d.params.nodes c && due d node.owner c node) refl
    where
      by : (b : Bool) → (within 0 d.params.nodes c && due d node.owner c node) ≡ b → due d node.owner c node ≡ true
      by true e = (both (within 0 d.params.nodes c) _ e).1
      by false e =
          let kept : node_of (scan d node.owner).after c ≡ node = left_is ∙ rw e in
          absurd (f.before (sym (ap (λ m. m.state) kept) ∙ f.after))

  pub ready-frees : (reason_of d c node ≡ Ready) ↔ Frees d node.owner c
  ready-frees = ((λ e. freed (ready-due d c node e)), (λ f. due-ready d c node (frees-due f)))

-- ---- who is behind

module _ (d : Domain) where
  keeps-up : (q : ℕ) → lags d (process_of d q) ≡ false → KeepsUp d q
  keeps-up q e present =
      let x = process_of d q in
      let here : true ≡ eqb x.present 1 = sym (eq-eqb _ _ present) in
      let tested : (eqb x.present 1 && not (eqb x.epoch d.epoch)) ≡ false = e in
      eqb-true _ _ (not-false _ (ap (λ b. b && not (eqb x.epoch d.epoch)) here ∙ tested))

  before-laggard : (q : ℕ) → q < laggard d → KeepsUp d q
  before-laggard q l = keeps-up q (first-before (λ _ x. lags d x) 0 d.processes q no_process (omega arith))

  nobody : length d.processes ≤ laggard d → (q : ℕ) → KeepsUp d q
  nobody l q = by (ltb q (length d.processes)) refl
    where
      by : (b : Bool) → ltb q (length d.processes) ≡ b → KeepsUp d q
      by true h = let m = ltb-true q (length d.processes) h in before-laggard q (omega (arith, m, l))
      by false h = λ present.
          let none = ap (λ x. x.present) (get_or-eq_default d.processes no_process (ltb-false _ _ h)) in absurd (omega (arith, none, present))

  one-lags : d.path ≡ Fast → laggard d < length d.processes → LowestBehind d (Lagging (laggard d))
  one-lags f l =
      let h = both (eqb (process_of d (laggard d)).present 1) _ (first-at (λ _ x. lags d x) 0 d.processes (laggard d) no_process (sym (zero-add _)) l) in
      (f, eqb-true _ _ h.0, eqb-false _ _ (not-true _ h.1), before-laggard)

  none-lags : d.path ≡ Fast → length d.processes ≤ laggard d → LowestBehind d Nobody
  none-lags f l = (f, nobody l)

  not-asked : WellFormed d → d.path ≢ Fast → LowestBehind d NotAsked
  not-asked w f = omega (arith, f, w.path)

  pub lowest-behind : WellFormed d → LowestBehind d (behind_in d)
  lowest-behind w =
      by_cond (LowestBehind d) _
      (λ f. by_cond (LowestBehind d) _ (λ l. one-lags (eqb-true _ _ f) (ltb-true _ _ l)) (λ l. none-lags (eqb-true _ _ f) (ltb-false _ _ l)))
      (λ f. not-asked w (eqb-false _ _ f))

pub why-is-exact : WhyIsExact
unfolding why
why-is-exact d c w =
    record {
      first = first-true d c (node_of d c) w;
      ready = ready-frees d w c;
      behind = lowest-behind d w;
    }
