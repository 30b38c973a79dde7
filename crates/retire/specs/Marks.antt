-- The marks of the nodes that hazards show. Assumes nothing.
use Rattle.std.specs.Prelude.{ℕ, ◌+◌, ◌-◌, ◌≤◌, Bool, true, false, List, [], ◌∷◌, set, take, drop}
use Rattle.lists.specs.Rows.{rows}
use Rattle.lists.specs.Tests.{All}
use Rattle.model.specs.Params.{most_nodes}
use Rattle.model.specs.State.{Process}
use Rattle.model.specs.Retire.{visible_in}

-- a mark for each number that a hazard may hold
abbrev pub mark_count : ℕ
mark_count = most_nodes + 1

-- the marks s with those of all the numbers set
unfoldable pub marking : List Bool → List ℕ → List Bool
marking s [] = s
marking s (v ∷ vs) = marking (set s v true) vs

-- what the hazards of a process show, to itself if own, or to another, has a mark
abbrev pub Markable : Bool → Process → Type 0
Markable own x = All (λ v. v ≤ most_nodes) (visible_in own x)

-- what the processes from a up to b show to others
abbrev pub shown_from : List Process → ℕ → ℕ → List ℕ
shown_from ps a b = rows (visible_in false) (take (b - a) (drop a ps))
