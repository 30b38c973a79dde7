-- `buffer::flush` meets its contract. The invariant: to flush the stores from e on is to flush all (`Flushing`).
-- Assumes nothing.
use mathlib.Core.Path.{◌≡◌}
use lib.ListN.{length}
use Rattle.layout.specs.Encode.{process_at}
use Rattle.stretch.proofs.Buffers.{Flushing}
use Rattle.stretch.proofs.buffer.flush.Given as goal

abbrev pub invariant-loop-e : goal.invariant-loop-e
invariant-loop-e l =
    (l.stores ≡ length (process_at l.at.k l.initial.row).buffer) × Flushing l.at.k l.initial.row l.row l.e
