-- What a portion of a scan answers and leaves, as the model has it. Assumes nothing.
use Rattle.std.specs.Prelude.{ℕ, List, ◌≡◌}
use Rattle.model.specs.Portion.{Scanned}
use Rattle.layout.specs.Encode.{encode}
use Rattle.retire.specs.declared.portion.Portion.{Portion}

-- the answer r and the words ws afterwards are those of x
pub record Scans (x : Scanned) (r : Portion) (ws : List ℕ) : Type 0 where
  pub freed : r.freed ≡ x.freed
  pub examined : r.examined ≡ x.examined
  pub next : r.next ≡ x.next
  pub left : r.left ≡ x.left
  pub words : ws ≡ encode x.after
