-- `view::few_show` meets its contract. The invariant: found says whether one of the first h hazards shows the node. Assumes nothing.
use mathlib.Core.Bool.{not}
use mathlib.Core.Path.{◌≡◌}
use Rattle.stretch.specs.Stretch.{held_in}
use Rattle.stretch.specs.View.{hide}
use Rattle.stretch.proofs.view.few_show.Given as goal

abbrev pub invariant-loop-h : goal.invariant-loop-h
invariant-loop-h l = l.found ≡ not (hide (held_in l.at l.row) l.v 0 l.h)
