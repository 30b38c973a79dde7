-- `reading::in_words` meets its contract: no domain has more words than there is room for. Assumes nothing.
use mathlib.Core.Path.{◌∙◌}
use native.Mathlib.Omega.{arith}
use Rattle.explain.proofs.Ways.{no_words, whole_words}
use Rattle.explain.proofs.reading.in_words.Goals as goal

pub returns-then-bytes-long : goal.returns-then-bytes-long
returns-then-bytes-long c = no_words c.args.card c.args.bytes.now c.if-bytes-long.true

pub slice_bounds-words-end : goal.slice_bounds-words-end
slice_bounds-words-end c = omega (arith, (whole_words c.args.card c.args.bytes.now c.if-bytes-long.false).0)

pub of_words-requires : goal.of_words-requires
of_words-requires c = omega (arith, (whole_words c.args.card c.args.bytes.now c.if-bytes-long.false).0)

pub returns : goal.returns
returns c = c.of_words.ensures ∙ (whole_words c.args.card c.args.bytes.now c.if-bytes-long.false).1
