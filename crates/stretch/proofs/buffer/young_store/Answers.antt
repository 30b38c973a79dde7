-- `buffer::young_store` meets its contract: the age in sums. Assumes nothing.
use mathlib.Core.Path.{◌∙◌}
use native.Mathlib.Omega.{arith}
use Rattle.stretch.proofs.Stores.{time-at}
use Rattle.stretch.proofs.Ages.{younger}
use Rattle.stretch.proofs.buffer.young_store.Goals as goal

pub returns : goal.returns
returns c =
    let h = c.requires in
    younger _ _ _ _ _ _ c.wide.ensures.0 (c.wide-time.ensures.0 ∙ time-at _ _ h.0.words _ h.1 _ (omega (arith, h.0.stores))) c.wide-2.ensures.0
