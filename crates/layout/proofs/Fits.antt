-- Each test of a record at a place of the words, as the facts that it stands for, and back. Assumes nothing.
use Prim.Native.Nat.{ℕ, ◌+◌, ◌<◌, ◌≤◌}
use mathlib.Core.Bool.{Bool, true, not, ◌&&◌}
use mathlib.Core.List.{List}
use mathlib.Core.Path.{◌≡◌, ap}
use lib.Dec.{leb, ltb, eqb}
use borrow.Author.Tests.{leb-true, ltb-true, ltb-false, eqb-true, eqb-false, not-true, le-leb, lt-ltb, le-ltb, eq-eqb}
use borrow.Author.Tests.{ne_eqb}
use Rattle.lists.proofs.Bools.{by_cond, both, implied, imply}
use Rattle.model.specs.Params.{Params, buffer_size}
use Rattle.model.specs.WellFormed.{HazardFits, PendingFits}
use Rattle.layout.specs.Shape.{Lead, word}
use Rattle.layout.specs.Words.{lead_fits, hazard_fits, store_fits}
use Rattle.layout.proofs.Places.{hazard_from, pending_from}

pub pass : {a b : Bool} → a ≡ true → b ≡ true → (a && b) ≡ true
pass h k = rw (h, k)

-- the lead of a process
pub record LeadFits (q : ℕ) (l : Lead) : Type 0 where
  pub epoch : l.epoch ≤ 2
  pub calls : l.calls < q
  pub presence : l.presence ≤ 1
  pub stores : l.stores ≤ buffer_size
  pub present : l.present ≤ 1

pub lead-facts : (q : ℕ) (l : Lead) → lead_fits q l ≡ true → LeadFits q l
unfolding lead_fits
lead-facts q l e =
    let e₀ = both (leb l.epoch 2) _ e in
    let e₁ = both (ltb l.calls q) _ e₀.1 in
    let e₂ = both (leb l.presence 1) _ e₁.1 in
    let e₃ = both (leb l.stores buffer_size) _ e₂.1 in
    record {
      epoch = leb-true _ _ e₀.0;
      calls = ltb-true _ _ e₁.0;
      presence = leb-true _ _ e₂.0;
      stores = leb-true _ _ e₃.0;
      present = leb-true _ _ e₃.1;
    }

pub lead-test : (q : ℕ) (l : Lead) → LeadFits q l → lead_fits q l ≡ true
unfolding lead_fits
lead-test q l f =
    pass (le-leb _ _ f.epoch)
    (pass (lt-ltb _ _ f.calls) (pass (le-leb _ _ f.presence) (pass (le-leb _ _ f.stores) (le-leb _ _ f.present))))

module _ (p : Params) (ws : List ℕ) (a : ℕ) where
  pub hazard-facts : hazard_fits p.nodes ws a ≡ true → HazardFits p (hazard_from ws a)
  unfolding hazard_fits
  hazard-facts e =
      let e₀ = both (leb (word ws a) p.nodes) _ e in
      let e₁ = both (leb (word ws (a + 1)) p.nodes) _ e₀.1 in
      let e₂ = both (leb (word ws (a + 2)) 1) _ e₁.1 in
      record {
        visible = leb-true _ _ e₀.0;
        assigned = leb-true _ _ e₁.0;
        validated = leb-true _ _ e₂.0;
        claimed = λ h. eqb-false _ _ (not-true _ (implied (eqb (word ws (a + 2)) 1) _ e₂.1 (eq-eqb _ _ h)));
      }

  pub hazard_test_lem : HazardFits p (hazard_from ws a) → hazard_fits p.nodes ws a ≡ true
  unfolding hazard_fits
  hazard_test_lem f =
      pass (le-leb _ _ f.visible)
      (pass (le-leb _ _ f.assigned)
      (pass (le-leb _ _ f.validated)
      (imply _ _ (λ h. ap not (ne_eqb _ _ (f.claimed (eqb-true _ _ h)))))))

  module _ (clock : ℕ) where
    -- place e of a buffer with so many stores
    module _ (stores e : ℕ) where
      pub store-facts : e < stores → store_fits stores p.hazards p.nodes clock ws a e ≡ true → PendingFits p clock (pending_from ws a)
      unfolding store_fits
      store-facts l q =
          let t : (ltb (word ws a) p.hazards && (leb (word ws (a + 1)) p.nodes && leb (word ws (a + 2)) clock)) ≡ true =
          rw (lt-ltb e stores l) at q in
          let t₀ = both (ltb (word ws a) p.hazards) _ t in
          let t₁ = both (leb (word ws (a + 1)) p.nodes) _ t₀.1 in
          record { hazard = ltb-true _ _ t₀.0; node = leb-true _ _ t₁.0; time = leb-true _ _ t₁.1 }

      pub store-zeros : stores ≤ e → store_fits stores p.hazards p.nodes clock ws a e ≡ true
          → (word ws a ≡ 0) × (word ws (a + 1) ≡ 0) × (word ws (a + 2) ≡ 0)
      unfolding store_fits
      store-zeros l q =
          let t : (eqb (word ws a) 0 && (eqb (word ws (a + 1)) 0 && eqb (word ws (a + 2)) 0)) ≡ true = rw (le-ltb e stores l) at q in
          let t₀ = both (eqb (word ws a) 0) _ t in
          let t₁ = both (eqb (word ws (a + 1)) 0) _ t₀.1 in
          (eqb-true _ _ t₀.0, eqb-true _ _ t₁.0, eqb-true _ _ t₁.1)

      pub store_test_lem : (e < stores → PendingFits p clock (pending_from ws a))
          → (stores ≤ e → (word ws a ≡ 0) × (word ws (a + 1) ≡ 0) × (word ws (a + 2) ≡ 0))
          → store_fits stores p.hazards p.nodes clock ws a e ≡ true
      unfolding store_fits
      store_test_lem f g =
          by_cond (λ b. b ≡ true) (ltb e stores)
          (λ h. let s = f (ltb-true _ _ h) in pass (lt-ltb _ _ s.hazard) (pass (le-leb _ _ s.node) (le-leb _ _ s.time)))
          (λ h. let z = g (ltb-false _ _ h) in pass (eq-eqb _ _ z.0) (pass (eq-eqb _ _ z.1) (eq-eqb _ _ z.2)))
