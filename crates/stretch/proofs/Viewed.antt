-- What the hazards of a stretch show, read one by one, and the pending stores put over it: what their own process sees. Assumes nothing.
use Prim.Native.Nat.{ℕ, ◌+◌, ◌<◌}
use mathlib.Core.Bool.{Bool, true, false, cond}
use mathlib.Core.List.{List, [], ◌∷◌, map}
use mathlib.Core.Path.{◌≡◌, refl, sym, ap, ◌∙◌}
use native.Mathlib.Omega.{arith}
use native.Mathlib.Nat.{zero-add}
use native.Mathlib.Numerals.{add-one}
use borrow.Author.Tests.{eqb-true, eqb-false}
use lib.ListN.{length, get_or, set, drop, length-map, length-set, get_or-map}
use lib.Seq.{drop-cons, ext_get_or, get_or-set_same, get_or-set_other}
use lib.Dec.{eqb}
use Rattle.lists.proofs.Stores.{set_cases}
use Rattle.model.specs.State.{Pending, Process, empty_hazard, hazard_of}
use Rattle.model.specs.Hazards.{latest}
use Rattle.model.specs.Retire.{visible_in}
use Rattle.model.proofs.Unclaimed.{own-length, own_at}
use Rattle.layout.specs.Shape.{word, hazard_place}
use Rattle.layout.specs.Encode.{shape, process_at}
use Rattle.stretch.specs.Stretch.{Stretch}
use Rattle.stretch.specs.Stores.{no_store}
use Rattle.stretch.specs.View.{overlaid}
use Rattle.stretch.proofs.Words.{hazards-length, hazard-word}

-- ---- the visible nodes

-- the first h of the numbers are what the first h hazards show
abbrev pub Shown : Process → ℕ → List ℕ → Type 0
Shown x h vs = (j : ℕ) → j < h → word vs j ≡ (hazard_of x j).visible

module _ (k : ℕ) (r : List ℕ) (s : Stretch k r) where
  pub shown-more : (h : ℕ) (vs : List ℕ) → Shown (process_at k r) h vs → h < k → length vs ≡ k
      → (a : ℕ) → a ≡ hazard_place shape h → Shown (process_at k r) (h + 1) (set vs h (word r a))
  shown-more h vs o l e a f j m =
      set_cases (λ v. v ≡ (hazard_of (process_at k r) j).visible) vs h j (word r a) 0 (omega arith)
      (λ q. rw q (sym (hazard-word k r h 0 a (omega (arith, s.long)) l (omega arith) (omega arith))))
      (λ q. o j (omega (arith, q)))

  pub shown-all : (vs : List ℕ) → Shown (process_at k r) k vs → length vs ≡ k → vs ≡ visible_in false (process_at k r)
  shown-all vs o e =
      let hs = (process_at k r).hazards in
      ext_get_or 0 vs (map (λ y. y.visible) hs) (e ∙ sym (hazards-length k r) ∙ sym (length-map hs _))
      (λ j m. o j (omega arith) ∙ sym (get_or-map (λ y. y.visible) hs j empty_hazard))

-- ---- the pending stores over them

overlaid-length : (b : List Pending) (vs : List ℕ) → length (overlaid b vs) ≡ length vs
overlaid-length [] vs = refl
overlaid-length (w ∷ b) vs = overlaid-length b (set vs w.hazard w.node) ∙ length-set vs w.hazard w.node

overlaid-at : (b : List Pending) (vs : List ℕ) (h : ℕ) → h < length vs → word (overlaid b vs) h ≡ latest b h (word vs h)
overlaid-at [] vs h l = refl
overlaid-at (w ∷ b) vs h l =
    overlaid-at b (set vs w.hazard w.node) h (simp length-set (omega arith)) ∙ ap (latest b h) (by (eqb w.hazard h) refl)
  where
    by : (t : Bool) → eqb w.hazard h ≡ t → word (set vs w.hazard w.node) h ≡ cond t w.node (word vs h)
    by true e = rw (eqb-true w.hazard h e) (get_or-set_same vs h w.node 0 l)
    by false e = get_or-set_other vs w.hazard h w.node 0 (λ q. eqb-false w.hazard h e (sym q))

-- what the hazards show, with every pending store put over it
pub overlaid-own : (x : Process) → overlaid x.buffer (visible_in false x) ≡ visible_in true x
overlaid-own x =
    let hs = x.hazards in
    let vs = visible_in false x in
    ext_get_or 0 (overlaid x.buffer vs) (visible_in true x)
    (overlaid-length x.buffer vs ∙ length-map hs _ ∙ sym (own-length x.buffer 0 hs))
    (λ h l. let inside : h < length hs = omega (arith, overlaid-length x.buffer vs, length-map hs (λ y. y.visible)) in
    overlaid-at x.buffer vs h (omega (arith, overlaid-length x.buffer vs))
    ∙ ap (latest x.buffer h) (get_or-map (λ y. y.visible) hs h empty_hazard)
    ∙ sym (own_at x.buffer 0 hs h inside ∙ ap (λ (j : ℕ). latest x.buffer j (get_or hs h empty_hazard).visible) (zero-add h)))

-- the stores from e on, over what the first e have left, are all of them
pub record Overlaying (b : List Pending) (vs₀ : List ℕ) (e : ℕ) (vs : List ℕ) : Type 0 where
  pub rest : overlaid (drop e b) vs ≡ overlaid b vs₀

module _ {b : List Pending} {vs₀ : List ℕ} where
  pub overlay-turn : {e : ℕ} {vs : List ℕ} → Overlaying b vs₀ e vs → e < length b → (h v : ℕ) → h ≡ (get_or b e no_store).hazard → v ≡ (get_or b e no_store).node
      → Overlaying b vs₀ (e + 1) (set vs h v)
  overlay-turn {e} {vs} o l h v p q =
      record { rest = rw (add-one, p, q) (ap (λ (c : List Pending). overlaid c vs) (sym (drop-cons b e no_store l)) ∙ o.rest) }
