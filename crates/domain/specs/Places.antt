-- Where the stretch of a process stands in a domain's words. Assumes nothing.
use Rattle.std.specs.Prelude.{ℕ, ◌+◌, ◌≤◌, List, ◌≡◌, length}
use Rattle.layout.specs.Shape.{hazard_place, stores_place, process_width, process_start}
use Rattle.layout.specs.Encode.{shape, params_in}
use Rattle.stretch.specs.declared.Place.{Place}

-- r is the place of process p in ws
pub record Placed (ws : List ℕ) (p : ℕ) (r : Place) : Type 0 where
  pub k : r.k ≡ (params_in ws).hazards
  pub from : r.from ≡ process_start shape (params_in ws).hazards p
  pub to : r.to ≡ r.from + process_width shape r.k
  pub inside : r.to ≤ length ws
  pub hazards : r.hazards ≡ hazard_place shape 0
  pub stores : r.stores ≡ stores_place shape r.k
