-- `trace::trailer_right` meets its contract: the distance that it is to be is made in 64 bits and does not wrap. Assumes nothing.
use mathlib.Core.Path.{sym, ◌∙◌}
use Rattle.trace.proofs.Opening.{no_room, trailer-tests}
use native.Mathlib.Omega.{arith}
use Rattle.trace.proofs.trailer_right.Goals as goal

pub returns-then-bytes-lt-WIDTH : goal.returns-then-bytes-lt-WIDTH
returns-then-bytes-lt-WIDTH c = sym (no_room c.args.bytes.now (omega arith))

pub returns : goal.returns
returns c =
    let bs = c.args.bytes.now in
    trailer-tests
    bs
    _
    _
    _
    (omega arith)
    c.mark_at.ensures
    (c.wide-distance.ensures.0 ∙ c.word_at-2.ensures)
    (omega arith)
