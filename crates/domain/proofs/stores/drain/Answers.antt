-- `stores::drain` meets its contract: the stretch that comes back holds the process so changed. Assumes nothing.
use Rattle.domain.proofs.Lent.{lent-process, lent-stretch, process-returned}
use Rattle.model.specs.Hazards.{drained}
use Rattle.domain.proofs.stores.drain.Goals as goal

pub drain-requires : goal.drain-requires
drain-requires c =
    let h = c.requires in
    (lent-stretch h.sound.0 h.sound.1 c.place_of-at.ensures, rw (lent-process h.sound.0 h.sound.1 c.place_of-at.ensures) h.p_nonzero)

pub returns : goal.returns
returns c =
    let h = c.requires in
    process-returned h.sound.0 h.sound.1 c.place_of-at.ensures (λ x. drained x x.buffer) _ c.drain.ensures
