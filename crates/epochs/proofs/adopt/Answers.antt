-- `epochs::adopt` meets its contract: the words after the sweep are those of the swept domain. Assumes nothing.
use Rattle.epochs.proofs.Quiescence.{sound-swept, process-swept, adopts}
use Rattle.epochs.proofs.adopt.Goals as goal

pub lead-l-requires : goal.lead-l-requires
lead-l-requires c =
    let p = c.args.p.0 in
    let swept = c.sweep_expired-freed.ensures in
    (sound-swept c.requires.0 p c.requires.1 swept, process-swept c.requires.0 p c.requires.1 swept)

pub epoch-global-requires : goal.epoch-global-requires
epoch-global-requires c =
    let p = c.args.p.0 in
    let swept = c.sweep_expired-freed.ensures in
    sound-swept c.requires.0 p c.requires.1 swept

pub set_lead-requires : goal.set_lead-requires
set_lead-requires c =
    let p = c.args.p.0 in
    let swept = c.sweep_expired-freed.ensures in
    (sound-swept c.requires.0 p c.requires.1 swept, process-swept c.requires.0 p c.requires.1 swept)

pub returns : goal.returns
returns c =
    let p = c.args.p.0 in
    let swept = c.sweep_expired-freed.ensures in
    let lead = c.lead-l.ensures in
    let epoch = c.epoch-global.ensures in
    adopts c.requires.0 p c.requires.1 swept lead epoch c.set_lead.ensures
