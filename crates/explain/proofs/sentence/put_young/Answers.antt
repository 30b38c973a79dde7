-- `explain::sentence::put_young` meets its contract: one text after another. Assumes nothing.
use mathlib.Core.Path.{refl}
use native.Mathlib.Omega.{arith}
use Rattle.explain.proofs.Puts.{exactly, further, as-text}
use Rattle.explain.proofs.sentence.put_young.Goals as goal

pub returns : goal.returns
returns c =
    let upto-second = further (exactly c.put_bytes-at.ensures) c.put_number-at.ensures in
    let upto-third = further upto-second c.put_ticks-at.ensures in
    as-text (further upto-third (exactly c.put_bytes.ensures)) refl (omega arith)
