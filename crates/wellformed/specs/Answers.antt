-- What the check of any words answers: nothing where they are malformed. Assumes nothing.
use Rattle.std.specs.Prelude.{ℕ, Bool, cond, List, Option, Some, None}
use Rattle.lists.specs.Tests.{count}
use Rattle.model.specs.Claims.{reachable_count}
use Rattle.layout.specs.Encode.{decode}
use Rattle.layout.specs.Words.{well_formed}
use Rattle.nodes.specs.Pass.{is_counted}

-- how many nodes are counted (b: whether they are counted at all)
abbrev pub counted_in : Bool → List ℕ → Option ℕ
counted_in b ws = cond (well_formed ws) (Some (count (is_counted b) (decode ws).nodes)) None

-- how many nodes are Reachable
abbrev pub reachable_in : List ℕ → Option ℕ
reachable_in ws = cond (well_formed ws) (Some (reachable_count (decode ws))) None
