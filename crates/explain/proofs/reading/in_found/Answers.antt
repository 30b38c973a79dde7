-- `reading::in_found` meets its contract: the words are enough for every book that opens. Assumes nothing.
use native.Mathlib.Omega.{arith}
use Rattle.trace.specs.Values.{header_value}
use Rattle.replay.proofs.Whole.{long-most, words-enough}
use Rattle.explain.proofs.reading.in_found.Goals as goal

pub slice_bounds-words-end : goal.slice_bounds-words-end
slice_bounds-words-end c =
    let bs = c.args.bytes.now in
    let f = header_value c.args.header in
    let most = long-most bs f c.requires in
    omega (arith, words-enough bs f c.requires c.wide-long.ensures.0 c.length.ensures, most)

pub at_end-requires : goal.at_end-requires
at_end-requires c =
    let enough = words-enough c.args.bytes.now (header_value c.args.header) c.requires c.wide-long.ensures.0 c.length.ensures in
    (c.requires, omega (arith, enough))
