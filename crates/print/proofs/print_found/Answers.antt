-- `print::print_found` meets its contract: the words are enough for every book that opens, and the replay is its print. Assumes nothing.
use native.Mathlib.Omega.{arith}
use Rattle.trace.specs.Values.{header_value}
use Rattle.replay.proofs.Whole.{long-most, words-enough}
use Rattle.print.proofs.FoundOrRefused.{room, found}
use Rattle.print.proofs.print_found.Goals as goal

pub slice_bounds-words-end : goal.slice_bounds-words-end
slice_bounds-words-end c =
    let bs = c.args.bytes.now in
    let f = header_value c.args.header in
    let most = long-most bs f c.requires.0 in
    omega (arith, words-enough bs f c.requires.0 c.wide-long.ensures.0 c.length.ensures, most)

pub replay-requires : goal.replay-requires
replay-requires c =
    let bs = c.args.bytes.now in
    let f = header_value c.args.header in
    let h = c.requires in
    (h.0, omega (arith, words-enough bs f h.0 c.wide-long.ensures.0 c.length.ensures), room bs f h.0 _ h.1)

pub returns : goal.returns
returns c = found c.args.bytes.now (header_value c.args.header) c.requires.0 _ _ _ c.replay.ensures
