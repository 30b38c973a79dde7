-- `buffer::young` meets its contract. The invariant: ok says whether the first e stores are young. Assumes nothing.
use Prim.Native.Nat.{◌-◌}
use lib.Dec.{ltb}
use Rattle.lists.proofs.Tested.{Tested}
use Rattle.layout.specs.Encode.{process_at}
use Rattle.stretch.proofs.buffer.young.Given as goal

abbrev pub invariant-loop-e : goal.invariant-loop-e
invariant-loop-e l =
    Tested (λ q. ltb (l.clock - q.time) l.delay) (process_at l.at.k l.row).buffer l.e l.ok
