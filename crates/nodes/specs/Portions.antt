-- Where a portion of a scan ends, and what it meets up to there. Assumes nothing.
use Rattle.std.specs.Prelude.{ℕ, ◌-◌, ◌≤◌, Bool, List, ◌≡◌, take, drop}
use Rattle.lists.specs.Tests.{count, past_from}
use Rattle.model.specs.State.{Node}
use Rattle.nodes.specs.declared.portions.End.{End}

-- of m nodes from one on: the place after the limit-th that passes the test (m where there are fewer), and how many pass before it
pub record Reached (f : Node → Bool) (limit from m : ℕ) (ns : List Node) (r : End) : Type 0 where
  pub next : r.next ≡ past_from f limit from (drop from ns)
  pub examined : r.examined ≡ count f (take (r.next - from) (drop from ns))
  pub low : from ≤ r.next
  pub high : r.next ≤ m
