-- The check's answer from whether the words are well formed and how many nodes are counted. Assumes nothing.
use Rattle.std.proofs.Common.{◌≡◌, ℕ, Bool, false, cond, List, ◌∙◌}
use Rattle.std.specs.Prelude.{Option, Some, None, is_some}
use Rattle.lists.specs.Tests.{count}
use Rattle.model.specs.State.{Node}
use Rattle.layout.specs.Encode.{decode}
use Rattle.layout.specs.Words.{well_formed}
use Rattle.nodes.specs.Pass.{is_counted}
use Rattle.wellformed.specs.Answers.{counted_in}

module _ (ws : List ℕ) (b : Bool) where
  pub malformed : false ≡ well_formed ws → None ≡ counted_in b ws
  malformed e = rw (← e)

  pub counted : {found : Option ℕ} {ns : List Node} → is_some found ≡ well_formed ws → ns ≡ (decode ws).nodes
      → found ≡ cond (is_some found) (Some (count (is_counted b) ns)) None → found ≡ counted_in b ws
  counted good same h = h ∙ (λ t. cond (good t) (Some (count (is_counted b) (same t))) None)
