-- Marks: one after the other, at a place, and as a loop sets them. Assumes nothing.
use Prim.Native.Nat.{ℕ, zero, suc, ◌+◌, ◌-◌, ◌<◌, ◌≤◌}
use mathlib.Core.Bool.{Bool, true, false, not, ◌&&◌, ◌||◌, or-true, or-false, not-not}
use mathlib.Core.List.{List, [], ◌∷◌, ◌++◌, map, append_assoc}
use mathlib.Core.Path.{◌≡◌, refl, sym, ap, ap₂, ◌∙◌}
use native.Mathlib.Omega.{arith}
use native.Mathlib.Numerals.{add-one}
use lib.ListN.{length, get_or, set, take, drop, replicate, length-set, length-drop, length-replicate, get_or-replicate}
use lib.ListN.{drop_of_length-le}
use lib.Seq.{drop-cons, take_all, get_or-set_same, get_or-set_other}
use lib.Dec.{eqb}
use borrow.Author.Tests.{eq-eqb, ne_eqb, eqb-true, eqb-false}
use Rattle.lists.specs.Tests.{lacks}
use Rattle.lists.specs.Rows.{rows}
use Rattle.model.specs.State.{Hazard, Process, empty_hazard, no_process}
use Rattle.model.specs.Retire.{visible_in, visible_from}
use Rattle.retire.specs.Marks.{marking, shown_from}

marking-append : (s : List Bool) (us vs : List ℕ) → marking s (us ++ vs) ≡ marking (marking s us) vs
unfolding marking
marking-append s [] vs = refl
marking-append s (u ∷ us) vs = marking-append (set s u true) us vs

-- a mark is set where it was, and where the number is among those marked
pub marking-at : (s : List Bool) (vs : List ℕ) (i : ℕ) → i < length s
    → get_or (marking s vs) i false ≡ (get_or s i false || not (lacks vs i))
unfolding marking
marking-at s [] i h = sym (or-false (get_or s i false))
marking-at s (v ∷ vs) i h =
    marking-at (set s v true) vs i (simp length-set (omega arith)) ∙ by (eqb v i) refl
  where
    by : (b : Bool) → eqb v i ≡ b → (get_or (set s v true) i false || not (lacks vs i)) ≡ (get_or s i false || not (not b && lacks vs i))
    by true e = rw (eqb-true v i e, get_or-set_same s i true false h, or-true)
    by false e = rw (get_or-set_other s v i true false (λ q. eqb-false v i e (sym q)))

-- from no marks: what is not marked is not among them
pub unmarked-at : (n : ℕ) (vs : List ℕ) (i : ℕ) → i < n → not (get_or (marking (replicate n false) vs) i false) ≡ lacks vs i
unmarked-at n vs i h =
    rw (marking-at (replicate n false) vs i (simp length-replicate (omega arith)), get_or-replicate n i false false h) (not-not (lacks vs i))

-- ---- a loop

-- from a on, those before i are marked: what is left from i on makes all of them
pub record MarkedTo (left : ℕ → List ℕ) (a i : ℕ) (s₀ s : List Bool) : Type 0 where
  pub rest : marking s (left i) ≡ marking s₀ (left a)

module _ {left : ℕ → List ℕ} {a : ℕ} where
  pub starts : {s : List Bool} → MarkedTo left a a s s
  starts = record { rest = refl }

  pub turn : {i : ℕ} {s₀ s s' : List Bool} (us : List ℕ) → MarkedTo left a i s₀ s → left i ≡ us ++ left (i + 1) → s' ≡ marking s us
      → MarkedTo left a (i + 1) s₀ s'
  turn {i} {s = s} us h k e = record { rest = rw e (sym (marking-append s us (left (i + 1))) ∙ ap (marking s) (sym k) ∙ h.rest) }

  pub ends : {i : ℕ} {s₀ s : List Bool} → MarkedTo left a i s₀ s → left i ≡ [] → s ≡ marking s₀ (left a)
  unfolding marking
  ends h k = rw k at h.rest

-- ---- what is left of a list of nodes, of the hazards of a process, of the processes up to b

pub left-all : (l : List ℕ) (i : ℕ) → i < length l → drop i l ≡ (get_or l i 0 ∷ []) ++ drop (i + 1) l
left-all l i h = rw add-one (drop-cons l i 0 h)

abbrev pub visible_past : List Hazard → ℕ → List ℕ
visible_past hs i = map (λ y. y.visible) (drop i hs)

pub left-hazards : (hs : List Hazard) (i : ℕ) → i < length hs → visible_past hs i ≡ ((get_or hs i empty_hazard).visible ∷ []) ++ visible_past hs (i + 1)
left-hazards hs i h = rw add-one (ap (map (λ y. y.visible)) (drop-cons hs i empty_hazard h))

-- of either, none at the end
pub left-none : {A : Type 0} (f : List A → List ℕ) (l : List A) (i : ℕ) → f [] ≡ [] → length l ≤ i → f (drop i l) ≡ []
left-none f l i e h = rw (drop_of_length-le l h) e

pub left-processes : (ps : List Process) (i b : ℕ) → i < b → b ≤ length ps
    → shown_from ps i b ≡ visible_in false (get_or ps i no_process) ++ shown_from ps (i + 1) b
left-processes ps i b h k =
    let more : b - i ≡ suc (b - suc i) = omega arith in
    rw add-one (ap₂ (λ (n : ℕ) (r : List Process). rows (visible_in false) (take n r)) more (drop-cons ps i no_process (omega arith)))

pub left-no-process : (ps : List Process) (i b : ℕ) → b ≤ i → shown_from ps i b ≡ []
left-no-process ps i b h =
    let none : b - i ≡ 0 = omega arith in
    ap (λ (n : ℕ). rows (visible_in false) (take n (drop i ps))) none

-- ---- what process p sees: those before it, itself, those after it

marking-three : (s : List Bool) (us vs ws : List ℕ) → marking (marking (marking s us) vs) ws ≡ marking s (us ++ (vs ++ ws))
marking-three s us vs ws = sym (marking-append s us (vs ++ ws) ∙ marking-append (marking s us) vs ws)

past : (p i : ℕ) (ps : List Process) → p < i → visible_from p i ps ≡ rows (visible_in false) ps
past p i [] h = refl
past p i (x ∷ xs) h =
    let other : eqb i p ≡ false = ne_eqb i p (λ e. omega arith) in
    rw other (ap (λ (vs : List ℕ). visible_in false x ++ vs) (past p (suc i) xs (omega arith)))

parts : (p i j : ℕ) (ps : List Process) → p ≡ i + j → j < length ps
    → visible_from p i ps ≡ rows (visible_in false) (take j ps) ++ (visible_in true (get_or ps j no_process) ++ rows (visible_in false) (drop (suc j) ps))
parts p i j [] e h = absurd (omega arith)
parts p i zero (x ∷ xs) e h =
    let own : eqb i p ≡ true = eq-eqb i p (omega arith) in
    rw own (ap (λ (vs : List ℕ). visible_in true x ++ vs) (past p (suc i) xs (omega arith)))
parts p i (suc j) (x ∷ xs) e h =
    let other : eqb i p ≡ false = ne_eqb i p (λ q. omega arith) in
    rw other
    (ap (λ (vs : List ℕ). visible_in false x ++ vs) (parts p (suc i) j xs (omega arith) (omega arith))
    ∙ sym (append_assoc (visible_in false x) (rows (visible_in false) (take j xs)) _))

pub seen_parts : (s₀ s₁ s₂ s₃ : List Bool) (p n : ℕ) (ps : List Process) → p < n → n ≡ length ps → s₁ ≡ marking s₀ (shown_from ps 0 p)
    → s₂ ≡ marking s₁ (visible_in true (get_or ps p no_process)) → s₃ ≡ marking s₂ (shown_from ps (p + 1) n)
    → s₃ ≡ marking s₀ (visible_from p 0 ps)
seen_parts s₀ s₁ s₂ s₃ p n ps h e e₁ e₂ e₃ =
    let own = visible_in true (get_or ps p no_process) in
    let first : p - 0 ≡ p = omega arith in
    let before : shown_from ps 0 p ≡ rows (visible_in false) (take p ps) = ap (λ (m : ℕ). rows (visible_in false) (take m ps)) first in
    let rest : length (drop (suc p) ps) ≤ n - suc p = omega (arith, length-drop (suc p) ps) in
    let after : shown_from ps (p + 1) n ≡ rows (visible_in false) (drop (suc p) ps) = rw add-one (ap (rows (visible_in false)) (take_all (n - suc p) (drop (suc p) ps) rest)) in
    let all : visible_from p 0 ps ≡ shown_from ps 0 p ++ (own ++ shown_from ps (p + 1) n) = rw (before, after) (parts p 0 p ps (omega arith) (omega arith)) in
    rw (all, e₃, e₂, e₁) (marking-three s₀ (shown_from ps 0 p) own (shown_from ps (p + 1) n))
