-- A scan in portions: which nodes a portion looks at, where it ends, and what it answers. Assumes nothing.
use Rattle.std.specs.Prelude.{ℕ, ◌-◌, Bool, ◌&&◌, List, take, drop, leb}
use Rattle.lists.specs.Tests.{count, past_from}
use Rattle.model.specs.Params.{most_examined}
use Rattle.model.specs.State.{Node, Domain}
use Rattle.model.specs.Retire.{retired_by, partial_scan}

-- 23: a limit is 1 to 256
abbrev pub limit_in_range : ℕ → Bool
limit_in_range l = leb 1 l && leb l most_examined

-- the nodes from a on, and those from a up to b, that one left out
abbrev pub nodes_from : Domain → ℕ → List Node
nodes_from d a = drop a d.nodes

abbrev pub nodes_between : Domain → ℕ → ℕ → List Node
nodes_between d a b = take (b - a) (nodes_from d a)

-- where a portion of p ends that starts at node a: after its l-th Retired node from there on (M where there are fewer)
abbrev pub end_of : Domain → ℕ → ℕ → ℕ → ℕ
end_of d p a l = past_from (retired_by p) l a (nodes_from d a)

-- what a portion answers, and the domain after it
pub record Scanned : Type 0 where
  pub freed : ℕ
  -- the Retired nodes of its process that it met, freed or not
  pub examined : ℕ
  -- the node to go on from
  pub next : ℕ
  -- the Retired nodes of its process from there on
  pub left : ℕ
  pub after : Domain

-- a portion is by two ends: a scan of the nodes from a up to b
abbrev pub scanned_to : Domain → ℕ → ℕ → ℕ → Scanned
scanned_to d p a b =
    record {
      freed = (partial_scan d p a b).value;
      examined = count (retired_by p) (nodes_between d a b);
      next = b;
      left = count (retired_by p) (nodes_from d b);
      after = (partial_scan d p a b).after;
    }

-- and the limit says where it ends
abbrev pub portion : Domain → ℕ → ℕ → ℕ → Scanned
portion d p a l = scanned_to d p a (end_of d p a l)
