-- `buffer::drain` meets its contract: the oldest store committed, and the other stores moved up. Assumes nothing.
use mathlib.Core.Path.{refl}
use Rattle.stretch.proofs.Buffers.{drains}
use Rattle.stretch.proofs.buffer.drain.Goals as goal

pub returns : goal.returns
returns c =
    let h = c.requires in
    drains _ _ h.0.words _ _ _ _ h.0.stores h.1 c.commit.ensures refl c.shift.ensures
