-- `buffer::commit` meets its contract: the first word of the hazard that a store names, because every store names one of the k. Assumes nothing.
use native.Mathlib.Omega.{arith}
use Rattle.stretch.proofs.Stores.{lands, committed}
use Rattle.stretch.proofs.buffer.commit.Goals as goal

pub bounds-row-at : goal.bounds-row-at
bounds-row-at c =
    let h = c.requires in
    lands _ _ h.0.words _ h.1 _ _ _ (omega (arith, h.0.stores)) c.wide-h.ensures.0 (omega (arith, h.0.hazards))

pub returns : goal.returns
returns c =
    let h = c.requires in
    committed _ _ h.0.words _ h.1 _ _ _ _ (omega (arith, h.0.stores)) c.wide-h.ensures.0 (omega arith) (omega (arith, h.0.hazards))
