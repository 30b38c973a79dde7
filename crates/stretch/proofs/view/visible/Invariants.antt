-- `view::visible` meets its contract. The invariant: the first h nodes are there (`Shown`). Assumes nothing.
use mathlib.Core.Path.{◌≡◌}
use lib.ListN.{length}
use Rattle.layout.specs.Encode.{process_at}
use Rattle.stretch.proofs.Viewed.{Shown}
use Rattle.stretch.proofs.view.visible.Given as goal

abbrev pub invariant-loop-h : goal.invariant-loop-h
invariant-loop-h l = (length l.nodes ≡ l.at.k) × Shown (process_at l.at.k l.row) l.h l.nodes
