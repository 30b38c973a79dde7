-- What was looked for is found, or there is none. Assumes nothing.
use Prim.Native.Nat.{ℕ, ◌<◌, ◌≤◌}
use mathlib.Core.Bool.{Bool, true, false, cond}
use mathlib.Core.Path.{◌≡◌, refl, sym, ap, ◌∙◌}
use borrow.Author.Tests.{lt-ltb, le-ltb, ltb-true, ltb-false}
use lib.Dec.{ltb}
use Rattle.std.specs.Prelude.{Some, None}
use Rattle.std.specs.Option.{is_some}
use Rattle.std.proofs.lemmas.Option.{same_Some, none-some}
use Rattle.layout.specs.declared.ProcessId.{ProcessId}
use Rattle.layout.specs.declared.HazardId.{HazardId}
use Rattle.domain.specs.Found.{below, process_below, hazard_below}

module _ {A : Type 0} (make : ℕ → A) {n i : ℕ} where
  pub found-at : {j : ℕ} → j ≡ i → j < n → Some (make j) ≡ below make n i
  found-at {j} e l = sym (ap (λ b. cond b (Some (make j)) None) (lt-ltb j n l)) ∙ ap (below make n) e

  pub found-none : {j : ℕ} → j ≡ i → n ≤ j → None ≡ below make n i
  found-none {j} e l = sym (ap (λ b. cond b (Some (make j)) None) (le-ltb j n l)) ∙ ap (below make n) e

  -- the one found has its number; none is found only past the last
  found-is : {x : A} → Some x ≡ below make n i → (x ≡ make i) × (i < n)
  found-is {x} = by (ltb i n) refl
    where
      by : (b : Bool) → ltb i n ≡ b → Some x ≡ cond b (Some (make i)) None → (x ≡ make i) × (i < n)
      by true l e = (same_Some _ _ e, ltb-true i n l)
      by false l e = absurd (none-some _ (sym e))

  none-is : None ≡ below make n i → n ≤ i
  none-is = by (ltb i n) refl
    where
      by : (b : Bool) → ltb i n ≡ b → None ≡ cond b (Some (make i)) None → n ≤ i
      by true l e = absurd (none-some _ e)
      by false l e = ltb-false i n l

module _ {n i : ℕ} where
  pub process-found : {q : ProcessId} → Some q ≡ process_below n i → (q.0 ≡ i) × (i < n)
  process-found e = let f = found-is (λ p. record { 0 = p }) e in (ap (λ (x : ProcessId). x.0) f.0, f.1)

  pub process-none : None ≡ process_below n i → n ≤ i
  process-none e = none-is (λ p. record { 0 = p }) e

  pub hazard-found : {h : HazardId} → Some h ≡ hazard_below n i → (h.0 ≡ i) × (i < n)
  hazard-found e = let f = found-is (λ h. record { 0 = h }) e in (ap (λ (x : HazardId). x.0) f.0, f.1)

-- there is one where the number is not past the last
pub some-below : {A : Type 0} (make : ℕ → A) (n i : ℕ) → is_some (below make n i) ≡ ltb i n
some-below make n i = by (ltb i n)
  where
    by : (b : Bool) → is_some (cond b (Some (make i)) None) ≡ b
    by true = refl
    by false = refl
