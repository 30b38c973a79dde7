-- `process::set_words` meets its contract: the stretch that comes back holds the process so changed. Assumes nothing.
use Rattle.domain.proofs.Lent.{lent-stretch, process-returned}
use Rattle.model.specs.State.{with_words, with_present}
use Rattle.domain.proofs.process.set_words.Goals as goal

pub set_words-requires : goal.set_words-requires
set_words-requires c =
    let h = c.requires in
    lent-stretch h.0 h.1 c.place_of-at.ensures

pub returns : goal.returns
returns c =
    let h = c.requires in
    let a = c.args in
    process-returned h.0 h.1 c.place_of-at.ensures (λ x. with_present (with_words x a.epoch a.calls a.presence) a.present) _
    c.set_words.ensures
