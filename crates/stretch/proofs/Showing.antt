-- Whether the hazards of a process show a node to others, looked at by fours. Assumes nothing.
use Prim.Native.Nat.{ℕ, zero, suc, ◌+◌, ◌-◌, ◌<◌, ◌≤◌}
use mathlib.Core.Bool.{Bool, true, false, not, ◌&&◌, ◌||◌, false≢true}
use mathlib.Core.List.{List, [], ◌∷◌, map}
use mathlib.Core.Path.{◌≡◌, refl, sym, ap, ◌∙◌}
use native.Mathlib.Omega.{arith}
use native.Mathlib.Nat.{zero-add}
use native.Mathlib.Numerals.{add-one}
use borrow.Author.Tests.{not-false}
use lib.ListN.{length, get_or, length-map, get_or-map}
use lib.Dec.{eqb}
use Rattle.lists.specs.Tests.{every, lacks}
use Rattle.lists.specs.Upto.{all_upto}
use Rattle.lists.proofs.Bools.{both, by_cond}
use Rattle.lists.proofs.Facts.{every_of}
use Rattle.lists.proofs.Upto.{all-ext}
use Rattle.lists.proofs.UptoParts.{all-overlap, every_upto}
use Rattle.model.specs.State.{Pending, Hazard, Process, empty_hazard}
use Rattle.model.specs.Hazards.{latest}
use Rattle.model.specs.Retire.{own_from, visible_in}
use Rattle.stretch.specs.Stores.{no_store, store_of}
use Rattle.stretch.specs.View.{shows_at, hide}

-- all of a process's hazards
pub hide-all : (x : Process) (v k : ℕ) → length x.hazards ≡ k → hide x v 0 k ≡ lacks (visible_in false x) v
hide-all x v k e =
    let l = map (λ y. y.visible) x.hazards in
    all-ext (λ j. not (shows_at x v (0 + j))) (λ j. not (eqb (get_or l j 0) v)) k
    (λ j h. rw (zero-add j) (ap (λ (u : ℕ). not (eqb u v)) (sym (get_or-map (λ y. y.visible) x.hazards j empty_hazard))))
    ∙ ap (all_upto (λ j. not (eqb (get_or l j 0) v))) (sym e ∙ sym (length-map x.hazards (λ y. y.visible)))
    ∙ sym (every_upto (λ u. not (eqb u v)) l 0)

-- the first four and the last four, of four to eight
hide-fours : (x : Process) (v k : ℕ) → 4 ≤ k → k ≤ 8 → (hide x v 0 4 && hide x v (k - 4) 4) ≡ hide x v 0 k
hide-fours x v k low high =
    let f : ℕ → Bool = λ j. not (shows_at x v (0 + j)) in
    let e : k - 4 + 4 ≡ k = omega arith in
    ap (λ b. hide x v 0 4 && b)
    (all-ext (λ j. not (shows_at x v (k - 4 + j))) (λ j. f (k - 4 + j)) 4 (λ j h. rw (zero-add (k - 4 + j))))
    ∙ all-overlap f (k - 4) 4 (omega arith)
    ∙ ap (all_upto f) e

-- tests as code joins them
either : (a b : Bool) → (not a || not b) ≡ not (a && b)
either true b = refl
either false b = refl

pub show-fours : (x : Process) (v k : ℕ) {a b : Bool} → a ≡ not (hide x v 0 4) → b ≡ not (hide x v (k - 4) 4) → 4 ≤ k → k ≤ 8
    → (a || b) ≡ not (hide x v 0 k)
show-fours x v k e f low high =
    (λ t. e t || f t) ∙ either (hide x v 0 4) (hide x v (k - 4) 4) ∙ ap not (hide-fours x v k low high)

pub or-not : (a b : Bool) → (not a || b) ≡ not (a && not b)
or-not true true = refl
or-not true false = refl
or-not false b = refl

-- a hazard more
pub hide-more : (x : Process) (v h : ℕ) (found b : Bool) → found ≡ not (hide x v 0 h) → b ≡ shows_at x v h
    → (found || b) ≡ not (hide x v 0 (h + 1))
unfolding all_upto
hide-more x v h found b e q =
    rw (e, q, add-one h, zero-add h) (or-not (hide x v 0 h) (shows_at x v h))

-- four of them
pub hide-four : (x : Process) (v h : ℕ) (a b c d : Bool) → a ≡ shows_at x v h → b ≡ shows_at x v (h + 1) → c ≡ shows_at x v (h + 2)
    → d ≡ shows_at x v (h + 3) → (((a || b) || c) || d) ≡ not (hide x v h 4)
unfolding all_upto
hide-four x v h a b c d p q r s =
    let z : h + 0 ≡ h = omega arith in
    rw (p, q, r, s, z) (by (shows_at x v h) (shows_at x v (h + 1)) (shows_at x v (h + 2)) (shows_at x v (h + 3)))
  where
    by : (a b c d : Bool) → (((a || b) || c) || d) ≡ not ((((true && not a) && not b) && not c) && not d)
    by true b c d = refl
    by false true c d = refl
    by false false true d = refl
    by false false false true = refl
    by false false false false = refl

-- ---- what its own process sees

-- the last store to a hazard, or else what it shows, is v only where one of them is
latest-other : (b : List Pending) (h u v : ℕ) → every (λ e. not (eqb e.node v)) b ≡ true → not (eqb u v) ≡ true
    → not (eqb (latest b h u) v) ≡ true
latest-other [] h u v s e = e
latest-other (w ∷ b) h u v s e =
    let both' = both (not (eqb w.node v)) (every (λ e. not (eqb e.node v)) b) s in
    by_cond (λ n. not (eqb (latest b h n) v) ≡ true) (eqb w.hazard h)
    (λ _. latest-other b h w.node v both'.1 both'.0)
    (λ _. latest-other b h u v both'.1 e)

own-lacks : (b : List Pending) (h : ℕ) (ys : List Hazard) (v : ℕ) → every (λ e. not (eqb e.node v)) b ≡ true
    → lacks (map (λ y. y.visible) ys) v ≡ true → lacks (own_from b h ys) v ≡ true
own-lacks b h [] v s e = refl
own-lacks b h (y ∷ ys) v s e =
    let both' = both (not (eqb y.visible v)) (lacks (map (λ y. y.visible) ys) v) e in
    rw (latest-other b h y.visible v s both'.0, own-lacks b (suc h) ys v s both'.1)

pub not-shown : (x : Process) (v : ℕ) (shown clear : Bool) → shown ≡ not (lacks (visible_in false x) v)
    → (clear ≡ true → every (λ e. not (eqb e.node v)) x.buffer ≡ true) → (shown || not clear) ≡ false → lacks (visible_in true x) v ≡ true
not-shown x v false true e f h = own-lacks x.buffer 0 x.hazards v (f refl) (not-false _ (sym e))
not-shown x v false false e f h = absurd (false≢true (sym h))
not-shown x v true c e f h = absurd (false≢true (sym h))

-- no store is of v, if each of the eight places is another's
module _ (x : Process) (v : ℕ) (few : length x.buffer ≤ 8) where
  abbrev Other : ℕ → Bool → Type 0
  Other e b = e < length x.buffer → b ≡ not (eqb (store_of x e).node v)

  pub each-other : {a b c d e f g h : Bool} → Other 0 a → Other 1 b → Other 2 c → Other 3 d → Other 4 e → Other 5 f → Other 6 g → Other 7 h
      → ((((a && b) && c) && d) && (((e && f) && g) && h)) ≡ true → every (λ w. not (eqb w.node v)) x.buffer ≡ true
  each-other {a} {b} {c} {d} {e} {f} {g} {h} oa ob oc od oe of' og oh t =
      let halves = both (((a && b) && c) && d) (((e && f) && g) && h) t in
      let d' = both ((a && b) && c) d halves.0 in
      let c' = both (a && b) c d'.0 in
      let b' = both a b c'.0 in
      let h' = both ((e && f) && g) h halves.1 in
      let g' = both (e && f) g h'.0 in
      let f' = both e f g'.0 in
      every_of (λ w. not (eqb w.node v)) x.buffer no_store (at b'.0 b'.1 c'.1 d'.1 f'.0 f'.1 g'.1 h'.1)
    where
      at : a ≡ true → b ≡ true → c ≡ true → d ≡ true → e ≡ true → f ≡ true → g ≡ true → h ≡ true
          → (i : ℕ) → i < length x.buffer → not (eqb (store_of x i).node v) ≡ true
      at ta tb tc td te tf tg th zero l = sym (oa l) ∙ ta
      at ta tb tc td te tf tg th (suc zero) l = sym (ob l) ∙ tb
      at ta tb tc td te tf tg th (suc (suc zero)) l = sym (oc l) ∙ tc
      at ta tb tc td te tf tg th (suc (suc (suc zero))) l = sym (od l) ∙ td
      at ta tb tc td te tf tg th (suc (suc (suc (suc zero)))) l = sym (oe l) ∙ te
      at ta tb tc td te tf tg th (suc (suc (suc (suc (suc zero))))) l = sym (of' l) ∙ tf
      at ta tb tc td te tf tg th (suc (suc (suc (suc (suc (suc zero)))))) l = sym (og l) ∙ tg
      at ta tb tc td te tf tg th (suc (suc (suc (suc (suc (suc (suc zero))))))) l = sym (oh l) ∙ th
      at ta tb tc td te tf tg th (suc (suc (suc (suc (suc (suc (suc (suc i)))))))) l = absurd (omega (arith, few))
