-- `explain::sentence::put_behind` meets its contract: a text for each answer. Assumes nothing.
use mathlib.Core.Path.{◌≡◌, sym, ap}
use native.Mathlib.Omega.{arith}
use Rattle.waiting.specs.Values.{behind_value}
use Rattle.waiting.specs.declared.Behind.{Behind}
use Rattle.explain.specs.Sentence.{behind_text}
use Rattle.explain.proofs.Puts.{exactly, as-text, nothing}
use Rattle.explain.proofs.sentence.put_behind.Goals as goal

told : {b q : Behind} → b ≡ q → behind_text (behind_value q) ≡ behind_text (behind_value b)
told e = sym (ap (λ b. behind_text (behind_value b)) e)

pub returns-in-NotAsked : goal.returns-in-NotAsked
returns-in-NotAsked c = as-text (exactly (nothing _ _)) (told c.in-NotAsked.is) (omega arith)

pub returns-in-Nobody : goal.returns-in-Nobody
returns-in-Nobody c = as-text (exactly c.put_bytes.ensures) (told c.in-Nobody.is) (omega arith)

pub returns-in-Lagging : goal.returns-in-Lagging
returns-in-Lagging c = as-text c.put_lagging.ensures (told c.in-Lagging.is) (omega arith)
