-- Which nodes a sweep frees, and what it leaves. Assumes nothing.
use Rattle.std.specs.Prelude.{ℕ, suc, ◌<◌, Bool, false, not, ◌&&◌, List, ◌≡◌, get_or, ltb, eqb}
use Rattle.lists.specs.Tests.{count_from}
use Rattle.lists.specs.Sweep.{sweep_from, set_each}
use Rattle.model.specs.State.{Node, free_node}
use Rattle.model.specs.Retire.{retired_by, within}
use Rattle.layout.specs.Nodes.{nodes_words}
use Rattle.layout.specs.Nodes.{nodes_in}

-- node c, Retired by p at a clock below the limit, with its mark not set (the marks count from 1)
abbrev pub due_unmarked : ℕ → ℕ → List Bool → ℕ → Node → Bool
due_unmarked p limit marks c n = retired_by p n && (ltb n.retired_at limit && not (get_or marks (suc c) false))

-- the same, from node a up to node b, that one left out
abbrev pub due_between : ℕ → ℕ → ℕ → ℕ → List Bool → ℕ → Node → Bool
due_between p a b limit marks c n = within a b c && due_unmarked p limit marks c n

-- Retired by p, in the limbo list of this epoch
abbrev pub expired_in : ℕ → ℕ → ℕ → Node → Bool
expired_in p epoch c n = retired_by p n && eqb n.limbo epoch

-- of m nodes none passes the test f but from node a up to node b, that one left out
abbrev pub OnlyBetween : ℕ → ℕ → ℕ → (ℕ → Node → Bool) → Type 0
OnlyBetween a b m f = (c : ℕ) (n : Node) → c < m → within a b c ≡ false → f c n ≡ false

-- words r after the nodes at these places are freed
abbrev pub freed_at : List ℕ → ℕ → List ℕ → List ℕ
freed_at places m r = nodes_words (set_each free_node places (nodes_in m r))

-- words r after a sweep by the test f: r', with so many nodes freed
abbrev pub Swept : (ℕ → Node → Bool) → ℕ → List ℕ → List ℕ → ℕ → Type 0
Swept f m r r' freed =
    (r' ≡ nodes_words (sweep_from free_node f 0 (nodes_in m r))) × (freed ≡ count_from f 0 (nodes_in m r))
