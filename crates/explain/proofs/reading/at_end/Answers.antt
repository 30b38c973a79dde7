-- `reading::at_end` meets its contract. Assumes nothing.
use Rattle.trace.specs.Claims.{led_from}
use Rattle.trace.specs.Values.{header_value}
use Rattle.explain.proofs.Ways.{at-end}
use Rattle.explain.proofs.reading.at_end.Goals as goal

pub explain-requires : goal.explain-requires
explain-requires c = c.run_to_end.ensures.0

pub returns : goal.returns
returns c =
    let a = c.args in
    let t = led_from a.bytes.now (header_value a.header) in
    at-end a.card _ t _ c.explain.ensures c.run_to_end.ensures.1
