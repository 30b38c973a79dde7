-- `trace::header_of` meets its contract: the trailer has room for the parameters. Assumes nothing.
use Prim.Native.Nat.{◌+◌, ◌-◌}
use mathlib.Core.Path.{ap, ◌∙◌}
use lib.ListN.{length}
use Rattle.trace.specs.Widths.{params_size}
use Rattle.trace.specs.Bytes.{params_at}
use Rattle.trace.proofs.header_of.Goals as goal

pub returns : goal.returns
returns c =
    let bs = c.args.bytes.now in
    let d = c.wide.ensures.0 ∙ c.word_at.ensures in
    let p = c.params_at-params.ensures ∙ ap (λ n. params_at bs (length bs - n)) d in
    λ t. record { params = p t; count = c.word_at-count.ensures t; first = length bs - d t + params_size }
