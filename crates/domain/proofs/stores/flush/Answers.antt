-- `stores::flush` meets its contract: the stretch that comes back holds the process so changed. Assumes nothing.
use Rattle.domain.proofs.Lent.{lent-stretch, process-returned}
use Rattle.model.specs.Hazards.{flushed}
use Rattle.domain.proofs.stores.flush.Goals as goal

pub flush-requires : goal.flush-requires
flush-requires c =
    let h = c.requires in
    lent-stretch h.0 h.1 c.place_of-at.ensures

pub returns : goal.returns
returns c =
    let h = c.requires in
    process-returned h.0 h.1 c.place_of-at.ensures (λ x. flushed x x.buffer) _ c.flush.ensures
