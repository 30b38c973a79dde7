-- `stores::young` meets its contract: the stretch lent holds the process. Assumes nothing.
use Rattle.domain.proofs.Lent.{lent-process, lent-stretch, young-held}
use mathlib.Core.Path.{◌∙◌}
use Rattle.layout.specs.Encode.{decode, decode_by}
use Rattle.domain.proofs.stores.young.Goals as goal

pub young-requires : goal.young-requires
young-requires c =
    let h = c.requires in
    lent-stretch h.0 h.1 c.place_of-at.ensures

pub returns : goal.returns
unfolding decode_by
returns c =
    let h = c.requires in
    c.young.ensures
    ∙ young-held (decode c.args.words.now) c.clock-clock.ensures c.delay-delay.ensures (lent-process h.0 h.1 c.place_of-at.ensures)
