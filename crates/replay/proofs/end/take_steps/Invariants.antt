-- `replay::end::take_steps` meets its contract. The loop's invariant: i steps are taken, and the words are on the way (`Towards`) to what
-- all of them leave. Assumes nothing.
use Prim.Native.Nat.{◌≤◌}
use mathlib.Core.Path.{◌≡◌}
use lib.ListN.{length}
use Rattle.replay.proofs.Turns.{Towards}
use Rattle.replay.proofs.end.take_steps.Given as goal

abbrev pub invariant-loop-i : goal.invariant-loop-i
invariant-loop-i l = (l.i ≤ l.count) × (length l.words ≡ length l.initial.words) × Towards l.count l.i l.first l.bytes l.initial.words l.words
