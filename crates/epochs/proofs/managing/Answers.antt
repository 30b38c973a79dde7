-- `epochs::managing` meets its contract: by the branches of a manage that acts. Assumes nothing.
use mathlib.Core.Path.{◌∙◌, sym}
use Rattle.epochs.proofs.Counted.{sound-fast, process-fast, goes_back}
use Rattle.layout.proofs.Paths.{same-number}
use Rattle.layout.specs.declared.Path.TheVariants.{Fallback}
use Rattle.epochs.proofs.managing.Goals as goal

pub quiescent-requires-2 : goal.quiescent-requires-2
quiescent-requires-2 c =
    let p = c.args.p.0 in
    let path = c.path.ensures in
    let slow = same-number _ Fallback c.if-ne.ensures in
    let back = rw c.into.ensures at c.set_path.ensures in
    (sound-fast c.requires.0 p path slow back, process-fast c.requires.0 p path slow back c.requires.1)

pub returns : goal.returns
returns c =
    let p = c.args.p.0 in
    let path = c.path.ensures in
    let slow = same-number _ Fallback c.if-ne.ensures in
    let present = c.all_checked_in.ensures in
    let All-there = sym present ∙ c.if-not-all_checked_in.false in
    let back = rw c.into.ensures at c.set_path.ensures in
    goes_back c.requires.0 p path slow back All-there c.quiescent-2.ensures
