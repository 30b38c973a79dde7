-- `trace::holds` meets its contract: the sum is not made, since it could wrap. Assumes nothing.
use Prim.Native.Nat.{◌+◌, ◌<◌}
use mathlib.Core.Path.{sym}
use lib.ListN.{length}
use borrow.Author.Tests.{lt-leb}
use Rattle.trace.proofs.Opening.{leb-sub}
use native.Mathlib.Omega.{arith}
use Rattle.trace.proofs.holds.Goals as goal

pub returns-then-bytes-size : goal.returns-then-bytes-size
returns-then-bytes-size c =
    let a = c.args in
    let past : length a.bytes.now < a.at + a.size = omega arith in
    sym (lt-leb (a.at + a.size) (length a.bytes.now) past)

pub returns : goal.returns
returns c = let a = c.args in leb-sub a.at a.size (length a.bytes.now) (omega arith)
