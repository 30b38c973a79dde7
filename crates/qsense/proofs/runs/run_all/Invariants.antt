-- `runs::run_all` meets its contract. The loop's invariant: the words and the answers are on the way (`Going`) to what the whole list
-- leaves, i steps of it being taken. Assumes nothing.
use Rattle.qsense.proofs.Turns.{Going}
use lib.ListN.{length}
use mathlib.Core.Path.{◌≡◌}
use Prim.Native.Nat.{◌≤◌}
use Rattle.qsense.proofs.runs.run_all.Given as goal

abbrev pub invariant-loop-i : goal.invariant-loop-i
invariant-loop-i l =
    (l.i ≤ l.count) × (length l.words ≡ length l.initial.words) × Going l.good l.count l.i l.steps l.initial.words l.initial.answers l.words l.answers
