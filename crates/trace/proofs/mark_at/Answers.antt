-- `trace::mark_at` meets its contract: the four bytes are there. Assumes nothing.
use mathlib.Core.Path.{◌∙◌}
use Rattle.trace.proofs.Opening.{begins}
use Rattle.trace.proofs.mark_at.Goals as goal

pub returns : goal.returns
returns c = c.starts_with.ensures.value ∙ begins _ _ c.requires
