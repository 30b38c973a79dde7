-- `retire::marks::mark_visible` meets its contract: those before p, p itself, those after it. Assumes nothing.
use mathlib.Core.Path.{◌∙◌, sym}
use native.Mathlib.Omega.{arith}
use Rattle.layout.specs.Encode.{decode}
use Rattle.domain.proofs.ReadParams.{processes-length, processes-word}
use Rattle.retire.proofs.MarkedTo.{seen_parts}
use Rattle.retire.proofs.marks.mark_visible.Goals as goal

pub mark_others-requires-2 : goal.mark_others-requires-2
mark_others-requires-2 c =
    let h = c.requires in
    let n = processes-word h.0 c.bounds-n.ensures in
    (h.0, omega (arith, n), omega (arith, n))

pub returns : goal.returns
returns c =
    let a = c.args in
    let h = c.requires in
    let n = processes-word h.0 c.bounds-n.ensures in
    seen_parts _ _ _ _ a.p.0 _ (decode a.words.now).processes (omega (arith, n)) (n ∙ sym (processes-length h.0))
    c.mark_others.ensures c.mark_own.ensures c.mark_others-2.ensures
