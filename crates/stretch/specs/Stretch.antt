-- A process's own stretch of the words: what a slice that holds a process is. Assumes nothing.
use Rattle.std.specs.Prelude.{ℕ, ◌<◌, ◌≤◌, List, ◌≡◌, length}
use Rattle.lists.specs.Tests.{All}
use Rattle.model.specs.Params.{Between, most_hazards, buffer_size}
use Rattle.model.specs.State.{Process}
use Rattle.layout.specs.Shape.{hazard_place, stores_place, process_width}
use Rattle.layout.specs.Encode.{shape, process_words, process_at}
use Rattle.stretch.specs.declared.Place.{Place}

-- words that hold a process with k hazards
pub record Stretch (k : ℕ) (r : List ℕ) : Type 0 where
  pub few : Between 1 most_hazards k
  pub long : length r ≡ process_width shape k
  pub stores : length (process_at k r).buffer ≡ (shape.lead.get r).stores
  pub room : (shape.lead.get r).stores ≤ buffer_size
  pub whole : r ≡ process_words (process_at k r)
  pub aimed : All (λ e. e.hazard < k) (process_at k r).buffer

-- the same of a place, which says where in them the hazards and the stores start
pub record Stretched (at : Place) (r : List ℕ) : Type 0 where
  pub hazards : at.hazards ≡ hazard_place shape 0
  pub stores : at.stores ≡ stores_place shape at.k
  pub words : Stretch at.k r

-- the process that they hold
abbrev pub held_in : Place → List ℕ → Process
held_in at r = process_at at.k r
