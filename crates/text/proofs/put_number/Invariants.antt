-- `text::put_number` meets its contract. The loop's invariant: with the digits that are left stored too, the buffer is what it is to be.
-- Assumes nothing.
use Prim.Native.Nat.{◌≤◌, ◌-◌}
use mathlib.Core.Path.{◌≡◌}
use lib.ListN.{length}
use lib.Seq.{sets}
use Rattle.text.specs.Text.{digits}
use Rattle.text.proofs.put_number.Given as goal

abbrev pub invariant-loop-i : goal.invariant-loop-i
invariant-loop-i l =
    (l.at ≤ l.i) × (l.i ≤ l.end) × (length l.out ≡ length l.initial.out) × (sets l.out l.at (digits (l.i - l.at) l.rest) ≡ sets l.initial.out l.at (digits (l.end - l.at) l.n))
