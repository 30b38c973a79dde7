-- A node that fits, as the code looks at it: each word at most a limit that goes by the state. Assumes nothing.
use Rattle.std.specs.Prelude.{ℕ, ◌+◌, ◌-◌, ◌*◌, ◌≤◌, Bool, ◌&&◌, List, [], ◌∷◌, ◌≡◌}
use Rattle.model.specs.Params.{node_width}
use Rattle.layout.specs.Nodes.{nodes_fit}
use Rattle.nodes.specs.Part.{node_in}
use Rattle.limits.specs.Limits.{turned, in_row, any_word}

-- four limits a row, a row for each state
abbrev pub limit_count : ℕ
limit_count = 20

-- by state the limits of owner, guest, retired_at and limbo, each turned; last is the last process
abbrev pub node_limits : ℕ → ℕ → List ℕ
node_limits last clock =
    turned 0 ∷ turned 0 ∷ turned 0 ∷ turned 0
    ∷ turned last ∷ turned any_word ∷ turned 0 ∷ turned 0
    ∷ turned 0 ∷ turned any_word ∷ turned 0 ∷ turned 0
    ∷ turned last ∷ turned any_word ∷ turned 0 ∷ turned 0
    ∷ turned last ∷ turned any_word ∷ turned clock ∷ turned 2
    ∷ []

-- node c of m, by the row of its state
abbrev pub in_limits : List ℕ → ℕ → List ℕ → ℕ → Bool
in_limits limits m r c = in_row r (node_width * c + 1) limits ((node_in m r c).state * 4)

-- what a check of m nodes with such limits answers, for any number of processes and any clock that they are of; x: nothing was amiss
-- before
abbrev pub NodesFit : Bool → ℕ → List ℕ → List ℕ → Bool → Type 0
NodesFit x m r limits answer =
    (n clock : ℕ) → 1 ≤ n → n ≤ any_word → clock ≤ any_word → limits ≡ node_limits (n - 1) clock → answer ≡ (x && nodes_fit n clock m r)
