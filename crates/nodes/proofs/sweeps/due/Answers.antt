-- `sweeps::due` meets its contract, test by test. Assumes nothing.
use mathlib.Core.Bool.{false, not, ◌&&◌}
use Prim.Native.Nat.{suc}
use mathlib.Core.Path.{ap, ◌∙◌}
use native.Mathlib.Numerals.{add-one}
use native.Mathlib.Omega.{arith}
use lib.ListN.{get_or}
use lib.Dec.{ltb}
use Rattle.nodes.proofs.Words.{word_at}
use Rattle.nodes.proofs.sweeps.due.Goals as goal

pub returns : goal.returns
returns c =
    let a = c.args in
    let h = c.requires in
    let retired = word_at h.0 h.1 c.offset-at.ensures.0 3 (omega arith) in
    let place = add-one _ ∙ ap suc c.wide.ensures.0 in
    λ t. c.retired_by.ensures t && (ltb (retired t) a.limit && not (get_or a.marks.now (place t) false))
