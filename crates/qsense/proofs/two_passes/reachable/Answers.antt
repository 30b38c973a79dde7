-- `two_passes::reachable` meets its contract: checked, then counted. Assumes nothing.
use Rattle.qsense.proofs.Checked.{count-refused, checked, counted}
use Rattle.qsense.proofs.two_passes.reachable.Goals as goal

pub returns-then-not-well_formed : goal.returns-then-not-well_formed
returns-then-not-well_formed c =
    count-refused c.args.words.now _ c.well_formed-2.ensures (c.if-not-well_formed.true)

pub reachable_count-requires : goal.reachable_count-requires
reachable_count-requires c =
    checked c.args.words.now _ c.well_formed-2.ensures (c.if-not-well_formed.false)

pub returns : goal.returns
returns c =
    let good = c.if-not-well_formed.false in
    counted c.args.words.now _ c.well_formed-2.ensures good _ c.reachable_count.ensures
