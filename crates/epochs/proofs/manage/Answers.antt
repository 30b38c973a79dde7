-- `epochs::manage` meets its contract: the call counted, then what a manage that acts does. Assumes nothing.
use mathlib.Core.Path.{refl}
use Rattle.model.specs.Kinds.{Manage}
use Rattle.questions.proofs.Accepted.{process_in_lem}
use Rattle.epochs.proofs.Counted.{sound-called, process-called, acts}
use Rattle.epochs.proofs.manage.Goals as goal

pub lead-l-requires : goal.lead-l-requires
lead-l-requires c =
    let p = c.args.p.0 in
    (c.requires.0, process_in_lem Manage c.args.words.now p 0 0 0 c.requires refl)

pub set_lead-requires : goal.set_lead-requires
set_lead-requires c =
    let p = c.args.p.0 in
    (c.requires.0, process_in_lem Manage c.args.words.now p 0 0 0 c.requires refl)

pub set_lead-requires-2 : goal.set_lead-requires-2
set_lead-requires-2 c =
    let p = c.args.p.0 in
    (c.requires.0, process_in_lem Manage c.args.words.now p 0 0 0 c.requires refl)

pub managing-requires : goal.managing-requires
managing-requires c =
    let p = c.args.p.0 in
    let lead = c.lead-l.ensures in
    let read = c.bounds-a.ensures in
    let set = c.set_lead-2.ensures in
    (sound-called p c.requires lead read set, process-called p c.requires lead read set)

pub returns : goal.returns
returns c =
    let p = c.args.p.0 in
    let lead = c.lead-l.ensures in
    let read = c.bounds-a.ensures in
    let set = c.set_lead-2.ensures in
    acts p c.requires lead read set c.if-calls-ne0.false c.managing.ensures
