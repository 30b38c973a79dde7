-- `explain::sentence::put_ticks` meets its contract: the word by the number. Assumes nothing.
use mathlib.Core.Path.{sym, ap}
use native.Mathlib.Omega.{arith}
use Rattle.explain.specs.Sentence.{ticks_text}
use Rattle.explain.proofs.Puts.{exactly, as-text, several}
use Rattle.explain.proofs.sentence.put_ticks.Goals as goal

pub returns-then-ticks-eq1 : goal.returns-then-ticks-eq1
returns-then-ticks-eq1 c = as-text (exactly c.put_bytes.ensures) (sym (ap ticks_text c.if-ticks-eq1.true)) (omega arith)

pub returns-else-ticks-eq1 : goal.returns-else-ticks-eq1
returns-else-ticks-eq1 c =
    let ticks = c.args.ticks in
    as-text (exactly c.put_bytes-else-ticks-eq1.ensures) (several ticks (λ h. omega arith)) (omega arith)
