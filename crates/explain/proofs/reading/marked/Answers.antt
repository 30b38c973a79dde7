-- `reading::marked` meets its contract. Assumes nothing.
use mathlib.Core.Path.{◌∙◌}
use native.Mathlib.Omega.{arith}
use Rattle.explain.proofs.Ways.{unmarked, mark-is}
use Rattle.explain.proofs.reading.marked.Goals as goal

pub returns-then-bytes-lt-WORD : goal.returns-then-bytes-lt-WORD
returns-then-bytes-lt-WORD c = unmarked c.args.bytes.now (omega arith)

pub returns : goal.returns
returns c = c.mark_at.ensures ∙ mark-is c.args.bytes.now (omega arith)
