-- `explain::number::read` meets its contract. The loop's invariant: the first i bytes are digits, and n is their number. Assumes
-- nothing.
use Prim.Native.Nat.{◌≤◌}
use lib.ListN.{length}
use Rattle.explain.proofs.Digits.{Digits}
use Rattle.explain.proofs.number.read.Given as goal

abbrev pub invariant-loop-b : goal.invariant-loop-b
invariant-loop-b l = (l.b-index ≤ length l.bytes) × Digits l.bytes l.b-index l.n
