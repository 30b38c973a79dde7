-- Retire on words: the node marked, and the branches of what follows. Assumes nothing.
use Prim.Native.Nat.{ℕ, ◌<◌, ◌≤◌}
use mathlib.Core.Bool.{true, false}
use mathlib.Core.List.{List}
use mathlib.Core.Path.{◌≡◌, refl, sym, ◌∙◌, ap, subst}
use mathlib.Core.Logic.{◌≢◌}
use native.Mathlib.Omega.{arith}
use borrow.Author.Tests.{eq-eqb, ne_eqb, le-leb, lt-leb}
use lib.Dec.{eqb}
use Rattle.lists.specs.Tests.{count}
use Rattle.model.specs.Params.{Params}
use Rattle.model.specs.WellFormed.{WellFormed}
use Rattle.model.specs.State.{Domain, Node, Step, Fallback, process_of, node_of, set_node, with_path, clear_presence}
use Rattle.model.specs.Kinds.{Retire}
use Rattle.model.specs.Retire.{retired_by, partial_scan, scan, retiring, marked, overfull, fall_back, reclaim}
use Rattle.model.proofs.WellFormed.{keep-path, keep-presence, keep-marked}
use Rattle.layout.specs.Shape.{Lead, lead_of}
use Rattle.layout.specs.Encode.{encode, decode, params_in}
use Rattle.layout.specs.Sound.{Sound}
use Rattle.layout.proofs.Sound.{head_words_lem, decoded, sound-at}
use Rattle.domain.specs.Effects.{Does, given}
use Rattle.domain.proofs.After.{does-after}
use Rattle.questions.specs.Acted.{Ready, Acted}
use Rattle.questions.proofs.Accepted.{facts, process_in_lem}

-- ---- the switch

module _ {ws : List ℕ} (s : Sound ws) where
  good : WellFormed (with_path (decode ws) Fallback)
  good = keep-path s.domain Fallback (omega arith)

  module _ (ws₁ : List ℕ) (e₁ : ws₁ ≡ encode (with_path (decode ws) Fallback)) where
    pub sound-over : Sound ws₁
    sound-over = sound-at e₁ good

    pub falls-back : (ws₂ : List ℕ) → ws₂ ≡ encode (clear_presence (decode ws₁)) → ws₂ ≡ encode (fall_back (decode ws))
    falls-back ws₂ q = q ∙ ap (λ (d : Domain). encode (clear_presence d)) (decoded e₁ good)

-- all nodes, by the parameters that the code has read: a range of them
pub all-nodes : (ws : List ℕ) {a : Params} → a ≡ (decode ws).params → (0 ≤ a.nodes) × (a.nodes ≤ (params_in ws).nodes)
all-nodes ws e = (omega arith, omega (arith, ap (λ b. b.nodes) e, (head_words_lem ws).nodes))

-- ---- what follows a retire by p: a are the parameters, v the path, as the code has read them

module _ {ws : List ℕ} (s : Sound ws) (p : ℕ) {a : Params} (ea : a ≡ (decode ws).params) {v : ℕ} (e : v ≡ (decode ws).path) where
  pub scans : v ≡ Fallback → {ws' : List ℕ} {r : ℕ} → Does (partial_scan (decode ws) p 0 a.nodes) ws' r → Does (reclaim (decode ws) p) ws' r
  scans z {ws'} {r} h =
      let n : eqb (decode ws).path Fallback ≡ true = eq-eqb _ _ (sym e ∙ z) in
      rw n (subst (λ (b : Params). Does (partial_scan (decode ws) p 0 b.nodes) ws' r) ea h)

  module _ (z : v ≢ Fallback) {n : ℕ} (en : n ≡ count (retired_by p) (decode ws).nodes) where
    fast : eqb (decode ws).path Fallback ≡ false
    fast = ne_eqb _ _ (λ q. z (e ∙ q))

    limit : a.fallback_threshold ≡ (decode ws).params.fallback_threshold
    limit = ap (λ y. y.fallback_threshold) ea

    pub stays : n < a.fallback_threshold → Does (reclaim (decode ws) p) ws 0
    stays h =
        let few : count (retired_by p) (decode ws).nodes < (decode ws).params.fallback_threshold = rw (← en, ← limit) h in
        let b : overfull (decode ws) p ≡ false = lt-leb _ _ few in
        rw (fast, b) (s.whole, refl)

    module _ {ws₁ : List ℕ} (e₁ : ws₁ ≡ encode (fall_back (decode ws))) where
      switched : WellFormed (fall_back (decode ws))
      switched = keep-presence (good s)

      pub sound-switched : Sound ws₁
      sound-switched = sound-at e₁ switched

      -- the switch keeps the parameters
      pub params-switched : a ≡ (decode ws₁).params
      params-switched = ea ∙ sym (ap (λ (d : Domain). d.params) (decoded e₁ switched))

      pub process-switched : p < (params_in ws).processes → p < (params_in ws₁).processes
      process-switched l = omega (arith, (head_words_lem ws).processes, (head_words_lem ws₁).processes, ap (λ y. y.processes) ea, ap (λ y. y.processes) params-switched)

      pub switches : a.fallback_threshold ≤ n → {ws' : List ℕ} {r : ℕ} → Does (partial_scan (decode ws₁) p 0 a.nodes) ws' r
          → Does (reclaim (decode ws) p) ws' r
      switches h {ws'} {r} k =
          let many : (decode ws).params.fallback_threshold ≤ count (retired_by p) (decode ws).nodes = rw (← en, ← limit) h in
          let b : overfull (decode ws) p ≡ true = le-leb _ _ many in
          let whole = subst (λ (y : Params). Does (partial_scan (decode ws₁) p 0 y.nodes) ws' r) params-switched k in
          rw (fast, b) (does-after (fall_back (decode ws)) e₁ switched (λ d. scan d p) ws' r whole)

-- ---- the node marked

module _ {ws : List ℕ} (p c : ℕ) (r : Ready Retire ws p 0 c 0)
    (x : Lead) (ex : x ≡ lead_of (process_of (decode ws) p)) (t : ℕ) (et : t ≡ (decode ws).clock)
    (y : Node) (ey : y ≡ node_of (decode ws) c)
    (ws₁ : List ℕ) (e₁ : ws₁ ≡ encode (set_node (decode ws) c (retiring t x.epoch y))) where
  call : Step
  call = given 8 p 0 c 0

  marks : ws₁ ≡ encode (marked (decode ws) call)
  unfolding call
  marks = e₁ ∙ (λ i. encode (set_node (decode ws) c (retiring (et i) (ex i).epoch (ey i))))

  good₁ : WellFormed (marked (decode ws) call)
  unfolding call
  good₁ = let f = facts Retire ws p 0 c 0 r in keep-marked r.0.domain (given 8 p 0 c 0) (f.process refl) (f.node refl)

  pub sound-marked : Sound ws₁
  unfolding call
  sound-marked = sound-at marks good₁

  pub process-marked : p < (params_in ws₁).processes
  unfolding call
  process-marked = omega (arith, (head_words_lem ws).processes, (head_words_lem ws₁).processes, process_in_lem Retire ws p 0 c 0 r refl, ap (λ (d : Domain). d.params.processes) (decoded marks good₁))

  pub retires : (ws' : List ℕ) (v : ℕ) → Does (reclaim (decode ws₁) p) ws' v → Acted Retire ws p 0 c 0 ws' v
  unfolding call
  retires ws' v h = does-after (marked (decode ws) (given 8 p 0 c 0)) marks good₁ (λ d. reclaim d p) ws' v h
