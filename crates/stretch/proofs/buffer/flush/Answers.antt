-- `buffer::flush` meets its contract. The invariant: to flush the stores from e on is to flush all (`Flushing`). Assumes nothing.
use mathlib.Core.Path.{refl}
use native.Mathlib.Omega.{arith}
use Rattle.stretch.proofs.Buffers.{flush-turn, flush-ends}
use Rattle.stretch.proofs.buffer.flush.Goals as goal

pub loop-e-preserved : goal.loop-e-preserved
loop-e-preserved c = let inv = c.loop-e.invariant in (inv.0, flush-turn _ _ _ _ inv.1 _ (omega arith) c.commit.ensures)

pub returns : goal.returns
returns c =
    flush-ends _ _ _ _ c.loop-e.invariant.1 _ _ _ _ c.requires.stores (omega arith) (omega arith) refl (c.fill.ensures.after (λ _ e. e))
