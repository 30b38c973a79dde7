-- What a yes to every question of a kind says of the words. Assumes nothing.
use Prim.Native.Nat.{ℕ, ◌<◌}
use mathlib.Core.Bool.{true}
use mathlib.Core.List.{List}
use mathlib.Core.Path.{◌≡◌}
use Rattle.model.specs.Kinds.{Kind, number_of, means, row_of, ProcessId, HazardId, NodeId}
use Rattle.model.proofs.Walk.{Asked, asked}
use Rattle.layout.specs.Encode.{decode, decode_by, params_in}
use Rattle.domain.specs.Effects.{given}
use Rattle.questions.specs.Acted.{Ready}

module _ (k : Kind) (ws : List ℕ) (p h c guest : ℕ) (r : Ready k ws p h c guest) where
  pub facts : Asked k (decode ws) (given (number_of k) p h c guest)
  facts = asked k (decode ws) (given (number_of k) p h c guest) r.1

  pub process_in_lem : means (row_of k).process ProcessId ≡ true → p < (params_in ws).processes
  unfolding decode_by
  process_in_lem = facts.process

  pub hazard_in_lem : means (row_of k).hazard HazardId ≡ true → h < (params_in ws).hazards
  unfolding decode_by
  hazard_in_lem = facts.hazard

  pub node_in_lem : means (row_of k).node NodeId ≡ true → c < (params_in ws).nodes
  unfolding decode_by
  node_in_lem = facts.node
