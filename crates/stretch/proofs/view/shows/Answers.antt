-- `view::shows` meets its contract: all hazards, where they are few, and the first and the last four. Assumes nothing.
use mathlib.Core.Bool.{not}
use mathlib.Core.Path.{ap, ◌∙◌}
use native.Mathlib.Omega.{arith}
use Rattle.stretch.specs.Stretch.{held_in}
use Rattle.stretch.proofs.Words.{hazards-length}
use Rattle.stretch.proofs.Showing.{hide-all, show-fours}
use Rattle.stretch.proofs.view.shows.Goals as goal

pub returns-then-k-lt4 : goal.returns-then-k-lt4
returns-then-k-lt4 c =
    let a = c.args in
    c.few_show.ensures
    ∙ ap not (hide-all (held_in a.at a.row.now) a.v a.at.k (hazards-length a.at.k a.row.now))

pub returns : goal.returns
returns c =
    let a = c.args in
    let x = held_in a.at a.row.now in
    let few = c.requires.words.few in
    show-fours x a.v a.at.k c.four_show-first.ensures c.four_show-last.ensures (omega arith) (omega (arith, few))
    ∙ ap not (hide-all x a.v a.at.k (hazards-length a.at.k a.row.now))
