-- The node of a hazard is one of the nodes; past the last process or hazard, the first. Assumes nothing.
use Prim.Native.Nat.{ℕ, ◌-◌, ◌<◌, ◌≤◌}
use mathlib.Core.Bool.{Bool, true, false}
use mathlib.Core.List.{List}
use mathlib.Core.Path.{◌≡◌, refl, sym, ◌∙◌, ap}
use native.Mathlib.Omega.{arith}
use borrow.Author.Tests.{leb-true, leb-false, eqb-true, eqb-false}
use lib.Dec.{leb, eqb}
use lib.ListN.{get_or-eq_default}
use Rattle.model.specs.State.{Hazard, empty_hazard, no_process, process_of, hazard_of}
use Rattle.model.proofs.WellFormed.{process-fits}
use Rattle.layout.specs.Encode.{decode, params_in}
use Rattle.layout.specs.Sound.{Sound}
use Rattle.layout.proofs.Sound.{head_words_lem}
use Rattle.domain.proofs.Assigned.{assigned-in}
use Rattle.questions.specs.Answers.{hazard_in}

module _ {ws : List ℕ} (s : Sound ws) where
  -- by the parameters of the words
  no_process_lem : (p : ℕ) → (decode ws).params.processes ≤ p → no_process ≡ process_of (decode ws) p
  no_process_lem p h = sym (get_or-eq_default (decode ws).processes no_process {n = p} (omega (arith, s.domain.process_count)))

  no-hazard : (p h : ℕ) → p < (decode ws).params.processes → (decode ws).params.hazards ≤ h → empty_hazard ≡ hazard_in ws p h
  no-hazard p h lp l =
      let f = (process-fits s.domain p lp).stores in
      sym (get_or-eq_default (process_of (decode ws) p).hazards empty_hazard {n = h} (omega (arith, f.width)))

  -- a hazard with a node assigned is one of the hazards, and its node one of the nodes; of none, the first stands for it
  pub target_below : (p h : ℕ) {y : Hazard} → y ≡ hazard_in ws p h → y.assigned - 1 < (params_in ws).nodes
  target_below p h {y} e = by (leb (decode ws).params.processes p) (leb (decode ws).params.hazards h) (eqb y.assigned 0) refl refl refl
    where
      first : y.assigned ≡ 0 → y.assigned - 1 < (params_in ws).nodes
      first z = omega (arith, s.sizes.nodes)

      none : empty_hazard ≡ hazard_in ws p h → y.assigned - 1 < (params_in ws).nodes
      none q = first (ap (λ x. x.assigned) (e ∙ sym q))

      by : (a b z : Bool) → leb (decode ws).params.processes p ≡ a → leb (decode ws).params.hazards h ≡ b → eqb y.assigned 0 ≡ z
          → y.assigned - 1 < (params_in ws).nodes
      by true b z ea eb ez = none (ap (λ x. hazard_of x h) (no_process_lem p (leb-true _ _ ea)))
      by false true z ea eb ez = none (no-hazard p h (leb-false _ _ ea) (leb-true _ _ eb))
      by false false true ea eb ez = first (eqb-true _ _ ez)
      by false false false ea eb ez =
          let m = head_words_lem ws in
          assigned-in s p h (omega (arith, m.processes, leb-false _ p ea)) (omega (arith, m.hazards, leb-false _ h eb)) y e (eqb-false _ _ ez)
