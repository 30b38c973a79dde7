-- `retire::marks::mark_others` meets its contract: the processes passed are marked, and the others make all of them. Assumes nothing.
use native.Mathlib.Omega.{arith}
use Rattle.layout.specs.Encode.{decode}
use Rattle.domain.proofs.ReadParams.{processes-length}
use Rattle.retire.proofs.MarkedTo.{turn, ends, left-processes, left-no-process}
use Rattle.retire.proofs.marks.mark_others.Goals as goal

pub loop-q-preserved : goal.loop-q-preserved
loop-q-preserved c =
    let a = c.args in
    let inv = c.loop-q.invariant in
    let many = processes-length c.requires.0 in
    let left = left-processes (decode a.words.now).processes c.loop-q.q a.to (omega arith) (omega (arith, many)) in
    turn _ inv left c.mark_process.ensures

pub returns : goal.returns
returns c =
    let a = c.args in
    ends c.loop-q.invariant (left-no-process (decode a.words.now).processes c.loop-q.q a.to (omega arith))
