-- `processes::cut` meets its contract: the mask is 0 or has every bit set. Assumes nothing.
use Rattle.wellformed.proofs.ProcessWithin.{cut-is}
use Rattle.std.proofs.Common.{arith}
use Rattle.wellformed.proofs.processes.cut.Goals as goal

pub returns : goal.returns
returns c =
    let a = c.args in cut-is a.limit a.e a.stores (omega arith)
