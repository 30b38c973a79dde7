-- `replay::replay_steps` meets its contract. The loop's invariant: i steps are taken, and the words and the print are on the way (`Going`)
-- to what all of them leave. Assumes nothing.
use Prim.Native.Nat.{◌≤◌}
use mathlib.Core.Path.{◌≡◌}
use lib.ListN.{length}
use Rattle.replay.proofs.Turns.{Going}
use Rattle.replay.proofs.replay_steps.Given as goal

abbrev pub invariant-loop-i : goal.invariant-loop-i
invariant-loop-i l =
    (l.i ≤ l.count)
    × (length l.words ≡ length l.initial.words)
    × (length l.out ≡ length l.initial.out)
    × Going l.count l.i l.first l.start l.bytes l.initial.words l.initial.out l.words l.out l.at l.reachable
