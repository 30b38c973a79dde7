-- `retire::retire` meets its contract: the node marked, then what follows. Assumes nothing.
use mathlib.Core.Path.{refl}
use Rattle.model.specs.Kinds.{Retire}
use Rattle.questions.proofs.Accepted.{process_in_lem, node_in_lem}
use Rattle.retire.proofs.Branches.{sound-marked, process-marked, retires}
use Rattle.retire.proofs.retire.Goals as goal

pub lead-l-requires : goal.lead-l-requires
lead-l-requires c =
    let ws = c.args.words.now in
    let p = c.args.p.0 in
    let n = c.args.c.0 in
    (c.requires.0, process_in_lem Retire ws p 0 n 0 c.requires refl)

pub node-x-requires : goal.node-x-requires
node-x-requires c =
    let ws = c.args.words.now in
    let p = c.args.p.0 in
    let n = c.args.c.0 in
    (c.requires.0, node_in_lem Retire ws p 0 n 0 c.requires refl)

pub set_node-requires : goal.set_node-requires
set_node-requires c =
    let ws = c.args.words.now in
    let p = c.args.p.0 in
    let n = c.args.c.0 in
    (c.requires.0, node_in_lem Retire ws p 0 n 0 c.requires refl)

pub reclaim-requires : goal.reclaim-requires
reclaim-requires c =
    let p = c.args.p.0 in
    let n = c.args.c.0 in
    let lead = c.lead-l.ensures in
    let clock = c.clock-clock.ensures in
    let node = c.node-x.ensures in
    let set = rw c.into.ensures at c.set_node.ensures in
    (sound-marked p n c.requires _ lead _ clock _ node _ set, process-marked p n c.requires _ lead _ clock _ node _ set)

pub returns : goal.returns
returns c =
    let p = c.args.p.0 in
    let n = c.args.c.0 in
    let lead = c.lead-l.ensures in
    let clock = c.clock-clock.ensures in
    let node = c.node-x.ensures in
    retires p n c.requires _ lead _ clock _ node _ (rw c.into.ensures at c.set_node.ensures) _ _ c.reclaim.ensures
