-- `qsense::reachable` meets its contract: what the one pass over the words answers. Assumes nothing.
use mathlib.Core.Path.{ap, ◌∙◌}
use Rattle.qsense.specs.Values.{reply_of}
use Rattle.qsense.proofs.Checked.{answered}
use Rattle.qsense.proofs.reachable.Goals as goal

pub returns : goal.returns
returns c =
    let ws = c.args.words.now in
    ap (λ r. reply_of r ws) c.ok_or.ensures.value ∙ answered ws c.reachable.ensures
