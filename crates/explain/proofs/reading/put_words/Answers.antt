-- `reading::put_words` meets its contract. The loop's invariant: the first i words are there (`Filled`). Assumes nothing.
use mathlib.Core.Path.{refl}
use native.Mathlib.Omega.{arith}
use lib.ListN.{length-set}
use Rattle.explain.proofs.WordsOf.{filled_more, filled-all}
use Rattle.explain.proofs.reading.put_words.Goals as goal

pub loop-i-init : goal.loop-i-init
loop-i-init c = (omega arith, refl, λ j l. absurd (omega arith))

pub loop-i-preserved : goal.loop-i-preserved
loop-i-preserved c =
    let bs = c.args.bytes.now in
    let inv = c.loop-i.invariant in
    let more = filled_more bs c.loop-i.words c.loop-i.i _ inv.2 (omega arith) c.word_at.ensures in
    (simp length-set (omega arith), simp length-set inv.1, more)

pub returns : goal.returns
returns c = filled-all c.args.bytes.now _ _ c.loop-i.invariant.2 (omega arith) (omega arith)
