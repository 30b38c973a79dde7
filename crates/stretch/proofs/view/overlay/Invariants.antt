-- `view::overlay` meets its contract. The invariant: the stores from e on make what all make (`Overlaying`).
-- Assumes nothing.
use mathlib.Core.Path.{◌≡◌}
use lib.ListN.{length}
use Rattle.layout.specs.Encode.{process_at}
use Rattle.stretch.proofs.Viewed.{Overlaying}
use Rattle.stretch.proofs.view.overlay.Given as goal

abbrev pub invariant-loop-e : goal.invariant-loop-e
invariant-loop-e l =
    (l.stores ≡ length (process_at l.at.k l.row).buffer) × (length l.nodes ≡ l.at.k) × Overlaying (process_at l.at.k l.row).buffer l.initial.nodes l.e l.nodes
