-- `explain::sentence::put_state` meets its contract: a name for each state. Assumes nothing.
use mathlib.Core.Logic.{◌⊎◌, inl, inr}
use mathlib.Core.Path.{◌≡◌, sym, ap}
use native.Mathlib.Omega.{arith}
use Rattle.layout.specs.Values.{state_number}
use Rattle.layout.specs.declared.State.{State}
use Rattle.layout.specs.declared.State.TheVariants.{Removed, Retired}
use Rattle.explain.specs.Sentence.{state_text}
use Rattle.explain.proofs.Puts.{exactly, as-text}
use Rattle.explain.proofs.sentence.put_state.Goals as goal

named : {s t : State} → s ≡ t → state_text (state_number t) ≡ state_text (state_number s)
named e = sym (ap (λ s. state_text (state_number s)) e)

-- Retired has the last name too
named_last : {s : State} → (s ≡ Removed) ⊎ (s ≡ Retired) → state_text (state_number Removed) ≡ state_text (state_number s)
named_last (inl e) = named e
named_last (inr e) = named e

pub returns-in-Free : goal.returns-in-Free
returns-in-Free c = as-text (exactly c.put_bytes.ensures) (named c.in-Free.is) (omega arith)

pub returns-in-Allocated : goal.returns-in-Allocated
returns-in-Allocated c = as-text (exactly c.put_bytes-in-Allocated.ensures) (named c.in-Allocated.is) (omega arith)

pub returns-in-Reachable : goal.returns-in-Reachable
returns-in-Reachable c = as-text (exactly c.put_bytes-in-Reachable.ensures) (named c.in-Reachable.is) (omega arith)

pub returns-in-Removed : goal.returns-in-Removed
returns-in-Removed c = as-text (exactly c.put_bytes-in-Removed.ensures) (named_last c.in-Removed.is) (omega arith)
