-- Kinds and their numbers: to test the number of a step is to test its kind. Assumes nothing.
use Prim.Native.Nat.{ℕ, zero, suc, ◌+◌}
use mathlib.Core.Bool.{Bool, true, false, ◌&&◌, false≢true}
use mathlib.Core.List.{List, [], ◌∷◌}
use mathlib.Core.Path.{◌≡◌, refl, sym, ◌∙◌, ap}
use mathlib.Core.Logic.{◌≢◌}
use native.Mathlib.Omega.{arith}
use borrow.Author.Tests.{eqb-true, eqb-false, ne_eqb}
use lib.ListN.{get_or}
use lib.Dec.{eqb}
use Rattle.lists.proofs.Bools.{both}
use Rattle.model.specs.State.{Step}
use Rattle.model.specs.Kinds.{Kind, kinds, kind_of, number_of, is, Allocate, Publish, Protect, Check, Use, Clear}
use Rattle.model.specs.Kinds.{Remove, Retire, Drain, Flush, Tick, Manage, ClearPresence, Reinsert, Leave, Join}
use Rattle.model.specs.Kinds.{Portion, Unknown}

-- from a kind to its number and back
pub kind-of-number : (k : Kind) → kind_of (number_of k) ≡ k
kind-of-number Allocate = refl
kind-of-number Publish = refl
kind-of-number Protect = refl
kind-of-number Check = refl
kind-of-number Use = refl
kind-of-number Clear = refl
kind-of-number Remove = refl
kind-of-number Retire = refl
kind-of-number Drain = refl
kind-of-number Flush = refl
kind-of-number Tick = refl
kind-of-number Manage = refl
kind-of-number ClearPresence = refl
kind-of-number Reinsert = refl
kind-of-number Leave = refl
kind-of-number Join = refl
kind-of-number Portion = refl
kind-of-number Unknown = refl

-- from a number to its kind and back, where the kind is known
abbrev Numbered : ℕ → Kind → Type 0
Numbered n k = is k Unknown ≡ false → number_of k ≡ n

-- the kinds of a list have the numbers from i on
abbrev in_order : ℕ → List Kind → Bool
in_order i [] = true
in_order i (k ∷ ks) = eqb (number_of k) i && in_order (suc i) ks

number_at : (i : ℕ) (ks : List Kind) → in_order i ks ≡ true → (n : ℕ) → Numbered (i + n) (get_or ks n Unknown)
number_at i [] h n e = absurd (false≢true (sym e))
number_at i (k ∷ ks) h zero e = let at : number_of k ≡ i = eqb-true _ _ (both (eqb (number_of k) i) _ h).0 in omega arith
number_at i (k ∷ ks) h (suc n) e =
    let at = number_at (suc i) ks (both (eqb (number_of k) i) _ h).1 n e in omega arith

pub number-of-kind : (n : ℕ) → Numbered n (kind_of n)
number-of-kind zero e = absurd (false≢true (sym e))
number-of-kind (suc n) e = let at = number_at 1 kinds refl n e in omega arith

-- the test of a number, for every kind but Unknown
pub same_kind : (n : ℕ) (j : Kind) → is j Unknown ≡ false → eqb n (number_of j) ≡ is (kind_of n) j
same_kind n j known = by (is (kind_of n) Unknown) refl
  where
    by : (b : Bool) → is (kind_of n) Unknown ≡ b → eqb n (number_of j) ≡ is (kind_of n) j
    by false e = ap (λ (m : ℕ). eqb m (number_of j)) (sym (number-of-kind n e))
    by true e =
        let none : number_of (kind_of n) ≡ 0 = eqb-true _ 0 e in
        let other : number_of (kind_of n) ≢ number_of j = λ q. eqb-false (number_of j) 0 known (sym q ∙ none) in
        ne_eqb n (number_of j) (λ q. other (ap number_of (ap kind_of q ∙ kind-of-number j)))
        ∙ sym (ne_eqb (number_of (kind_of n)) (number_of j) other)

-- the step with the number of kind k
abbrev pub at_kind : Kind → Step → Step
at_kind k s = record { kind = number_of k; process = s.process; hazard = s.hazard; node = s.node; guest = s.guest }

pub at_kind_lem : (s : Step) → is (kind_of s.kind) Unknown ≡ false → at_kind (kind_of s.kind) s ≡ s
at_kind_lem s h =
    let e = number-of-kind s.kind h in
    λ i. record { kind = e i; process = s.process; hazard = s.hazard; node = s.node; guest = s.guest }
