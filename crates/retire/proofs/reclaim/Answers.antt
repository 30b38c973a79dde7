-- `retire::reclaim` meets its contract: by its branches. Assumes nothing.
use Rattle.retire.proofs.Branches.{all-nodes, sound-switched, params-switched, process-switched}
use Rattle.retire.proofs.Branches.{switches}
use Rattle.layout.proofs.Paths.{other-number}
use Rattle.layout.specs.declared.Path.TheVariants.{Fallback}
use Rattle.retire.proofs.reclaim.Goals as goal

pub scan-requires : goal.scan-requires
scan-requires c =
    let all = all-nodes _ c.bounds-a.ensures in
    (c.requires.0, c.requires.1, all.0, all.1)

pub scan-requires-2 : goal.scan-requires-2
scan-requires-2 c =
    let p = c.args.p.0 in
    let read = c.bounds-a.ensures in
    let path = c.path.ensures in
    let fast = other-number _ Fallback c.if-eq.ensures in
    let count = c.retired_count.ensures in
    let switched = c.fall_back.ensures in
    let all = all-nodes _ (params-switched c.requires.0 p read path fast count switched) in
    (sound-switched c.requires.0 p read path fast count switched, process-switched c.requires.0 p read path fast count switched c.requires.1, all.0, all.1)

pub returns : goal.returns
returns c =
    let p = c.args.p.0 in
    let read = c.bounds-a.ensures in
    let path = c.path.ensures in
    let fast = other-number _ Fallback c.if-eq.ensures in
    let count = c.retired_count.ensures in
    let switched = c.fall_back.ensures in
    switches c.requires.0 p read path fast count switched c.if-retired_count-a.false c.scan-2.ensures
