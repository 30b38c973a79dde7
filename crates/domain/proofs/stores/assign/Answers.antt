-- `stores::assign` meets its contract: the stretch that comes back holds the process so changed. Assumes nothing.
use Rattle.domain.proofs.Lent.{lent-process, lent-stretch, process-returned}
use Rattle.model.specs.Hazards.{assigning}
use native.Mathlib.Omega.{arith}
use Rattle.layout.specs.Encode.{decode, decode_by}
use Rattle.domain.proofs.stores.assign.Goals as goal

pub assign-requires : goal.assign-requires
assign-requires c =
    let h = c.requires in
    let held = lent-process h.sound.0 h.sound.1 c.place_of-at.ensures in
    (lent-stretch h.sound.0 h.sound.1 c.place_of-at.ensures, omega (arith, c.place_of-at.ensures.k), rw held h.p_len_bound)

pub returns : goal.returns
unfolding decode_by
returns c =
    let h = c.requires in
    let a = c.args in
    process-returned h.sound.0 h.sound.1 c.place_of-at.ensures (λ x. assigning x a.h.0 a.node (decode a.words.now).clock) _
    c.assign.ensures
