-- What a scan by marks sees, and that it frees what the scan of the model frees. Assumes nothing.
use Prim.Native.Nat.{ℕ, suc, ◌+◌, ◌-◌, ◌<◌, ◌≤◌}
use mathlib.Core.Bool.{Bool, true, false}
use mathlib.Core.List.{List, [], ◌∷◌, map}
use mathlib.Core.Path.{◌≡◌, sym, ap, subst, ◌∙◌}
use native.Mathlib.Omega.{arith}
use lib.ListN.{length, replicate, take, drop}
use Rattle.model.specs.Params.{most_hazards, most_nodes}
use lib.Seq.{length-take-le}
use lib.Dec.{eqb}
use Rattle.lists.specs.Tests.{All}
use Rattle.lists.proofs.Bools.{by_cond}
use Rattle.lists.proofs.Facts.{all_map}
use Rattle.lists.proofs.Agree.{sweep-agree, count-agree}
use Rattle.model.specs.State.{Pending, Hazard, Process, Node, free_node, process_of, with_nodes}
use Rattle.model.specs.WellFormed.{HazardFits, PendingFits, StoresFit}
use Rattle.model.specs.Hazards.{latest}
use Rattle.model.specs.Retire.{Effect, effect, own_from, visible_in, visible_to, due_in, freeing, partial_scan}
use Rattle.model.proofs.WellFormed.{process-fits}
use Rattle.layout.specs.Encode.{encode, decode, process_at, params_in}
use Rattle.layout.specs.Sound.{Sound}
use Rattle.layout.proofs.Sound.{head_words_lem}
use Rattle.stretch.specs.declared.Place.{Place}
use Rattle.domain.specs.Places.{Placed}
use Rattle.domain.proofs.Lent.{lent-process}
use Rattle.domain.specs.Effects.{Does, unmarked}
use Rattle.retire.specs.Marks.{mark_count, marking, Markable}
use Rattle.retire.proofs.MarkedTo.{unmarked-at}

-- ---- what a hazard shows has a mark

latest-small : (m : ℕ) (b : List Pending) (h v : ℕ) → All (λ w. w.node ≤ m) b → v ≤ m → latest b h v ≤ m
latest-small m [] h v f l = l
latest-small m (w ∷ b) h v f l =
    by_cond (λ u. latest b h u ≤ m) (eqb w.hazard h) (λ _. latest-small m b h w.node f.1 f.0) (λ _. latest-small m b h v f.1 l)

own-small : (m : ℕ) (b : List Pending) (h : ℕ) (hs : List Hazard) → All (λ w. w.node ≤ m) b → All (λ y. y.visible ≤ m) hs
    → All (λ v. v ≤ m) (own_from b h hs)
own-small m b h [] f g = tt
own-small m b h (y ∷ ys) f g = (latest-small m b h y.visible f g.0, own-small m b (suc h) ys f g.1)

shown-small : (m : ℕ) (hs : List Hazard) → All (λ y. y.visible ≤ m) hs → All (λ v. v ≤ m) (map (λ y. y.visible) hs)
shown-small m [] g = tt
shown-small m (y ∷ ys) g = (g.0, shown-small m ys g.1)

-- the first k places of the room for what a process sees
pub room : (k : ℕ) → k ≤ most_hazards → length (take k (replicate {A = ℕ} most_hazards 0)) ≡ k
room k h = length-take-le k (replicate most_hazards 0) h

module _ {ws : List ℕ} (s : Sound ws) where
  visible-small : (own : Bool) (p : ℕ) → p < (params_in ws).processes → Markable own (process_of (decode ws) p)
  visible-small own p l = by own
    where
      x : Process
      x = process_of (decode ws) p

      fits : StoresFit (decode ws).params (decode ws).clock x
      fits = (process-fits s.domain p (rw (← (head_words_lem ws).processes) l)).stores

      shown : All (λ y. y.visible ≤ most_nodes) x.hazards
      shown = all_map (HazardFits (decode ws).params) (λ y. y.visible ≤ most_nodes) x.hazards (λ y f. omega (arith, s.domain.params.nodes)) fits.hazards

      stored : All (λ w. w.node ≤ most_nodes) x.buffer
      stored = all_map (PendingFits (decode ws).params (decode ws).clock) (λ w. w.node ≤ most_nodes) x.buffer
          (λ w f. omega (arith, s.domain.params.nodes)) fits.buffer

      by : (o : Bool) → Markable o x
      by true = own-small most_nodes x.buffer 0 x.hazards stored shown
      by false = shown-small most_nodes x.hazards shown

  -- the same of the stretch that is lent
  pub lent-small : (own : Bool) {p : ℕ} {r : Place} → p < (params_in ws).processes → Placed ws p r
      → Markable own (process_at r.k (take (r.to - r.from) (drop r.from ws)))
  lent-small own {p} l e = subst (λ (x : Process). Markable own x) (sym (lent-process s l e)) (visible-small own p l)

  -- what marks the stretch that is lent marks the process
  pub lent-marked : (own : Bool) {p : ℕ} {r : Place} → p < (params_in ws).processes → Placed ws p r → (s₀ : List Bool) {s₁ : List Bool}
      → s₁ ≡ marking s₀ (visible_in own (process_at r.k (take (r.to - r.from) (drop r.from ws))))
      → s₁ ≡ marking s₀ (visible_in own (process_of (decode ws) p))
  lent-marked own l e s₀ h = h ∙ ap (λ x. marking s₀ (visible_in own x)) (lent-process s l e)

  -- there is room for what a process sees
  pub lent-few : {p : ℕ} {r : Place} → Placed ws p r → r.k ≤ most_hazards
  lent-few e = omega (arith, e.k, (head_words_lem ws).hazards, s.domain.params.hazards)

  module _ (p : ℕ) (marks : List Bool) (e : marks ≡ marking (replicate mark_count false) (visible_to (decode ws) p)) where
    -- p sees a node without a mark in no hazard
    due_unmarked_lem : (a b c : ℕ) (n : Node) → c < length (decode ws).nodes → unmarked (decode ws) p a b marks c n ≡ due_in (decode ws) p a b c n
    due_unmarked_lem a b c n l =
        let marked : suc c < mark_count = omega (arith, s.domain.node_count, s.domain.params.nodes) in
        rw (e, unmarked-at mark_count (visible_to (decode ws) p) (suc c) marked)

    -- a sweep of the unmarked nodes from a up to b is a scan of them
    pub scanned : (a b : ℕ) {ws' : List ℕ} {v : ℕ} → Does (freeing (decode ws) (unmarked (decode ws) p a b marks)) ws' v
        → Does (partial_scan (decode ws) p a b) ws' v
    scanned a b {ws'} {v} d =
        let f : ℕ → Node → Bool = unmarked (decode ws) p a b marks in
        let g : ℕ → Node → Bool = due_in (decode ws) p a b in
        let agree : (c : ℕ) (n : Node) → c < 0 + length (decode ws).nodes → f c n ≡ g c n = λ c n l. due_unmarked_lem a b c n (omega arith) in
        let same : freeing (decode ws) f ≡ freeing (decode ws) g = λ t.
        effect (count-agree f g 0 (decode ws).nodes agree t) (with_nodes (decode ws) (sweep-agree f g free_node 0 (decode ws).nodes agree t)) in
        (d.0 ∙ ap (λ (x : Effect). encode x.after) same, d.1 ∙ ap (λ (x : Effect). x.value) same)
