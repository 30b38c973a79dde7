-- `domain::sweep_due` meets its contract: the part that comes back holds the nodes swept. Assumes nothing.
use Rattle.layout.specs.Encode.{decode_by}
use Rattle.domain.proofs.Nodes.{due-back}
use Rattle.layout.specs.Encode.{decode}
use Prim.Native.Nat.{◌-◌}
use mathlib.Core.Path.{◌∙◌, ap}
use Rattle.domain.proofs.sweep_due.Goals as goal

pub returns : goal.returns
unfolding decode_by
returns c =
    let h = c.requires in
    let a = c.args in
    let d = decode a.words.now in
    let limit = c.aged_before-limit.ensures ∙ ap (λ n. d.clock - n) c.delay.ensures in
    due-back h.0 _ c.nodes_at-a.ensures.value a.p.0 a.from a.to _ a.marks.now _ _ limit c.sweep_due.ensures
