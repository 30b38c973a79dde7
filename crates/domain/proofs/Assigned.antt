-- The node that a hazard of sound words names. Assumes nothing.
use Prim.Native.Nat.{ℕ, ◌-◌, ◌<◌}
use mathlib.Core.List.{List}
use mathlib.Core.Path.{◌≡◌}
use mathlib.Core.Logic.{◌≢◌}
use native.Mathlib.Omega.{arith}
use Rattle.lists.proofs.Facts.{all-at}
use Rattle.model.specs.WellFormed.{HazardFits}
use Rattle.model.specs.State.{Hazard, empty_hazard, process_of, hazard_of}
use Rattle.model.proofs.WellFormed.{process-fits}
use Rattle.layout.specs.Encode.{decode, decode_by, params_in}
use Rattle.layout.specs.Sound.{Sound}

module _ {ws : List ℕ} (s : Sound ws) (p h : ℕ) (lp : p < (params_in ws).processes) (lh : h < (params_in ws).hazards)
    (y : Hazard) (e : y ≡ hazard_of (process_of (decode ws) p) h) where
  pub hazard_fits_lem : HazardFits (decode ws).params y
  unfolding decode_by
  hazard_fits_lem =
      let f = (process-fits s.domain p lp).stores in
      rw e (all-at (HazardFits (decode ws).params) (process_of (decode ws) p).hazards h empty_hazard f.hazards (omega (arith, f.width)))

  -- an assigned node is one of the nodes
  pub assigned-in : y.assigned ≢ 0 → y.assigned - 1 < (params_in ws).nodes
  unfolding decode_by
  assigned-in z = omega (arith, hazard_fits_lem.assigned)
