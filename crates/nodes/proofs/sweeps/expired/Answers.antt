-- `sweeps::expired` meets its contract, test by test. Assumes nothing.
use mathlib.Core.Bool.{Bool, ◌&&◌}
use Prim.Native.Nat.{ℕ}
use mathlib.Core.Path.{ap₂}
use native.Mathlib.Omega.{arith}
use lib.Dec.{eqb}
use Rattle.nodes.proofs.Words.{word_at}
use Rattle.nodes.proofs.sweeps.expired.Goals as goal

pub returns : goal.returns
returns c =
    let h = c.requires in
    ap₂ (λ (b : Bool) (n : ℕ). b && eqb n c.args.epoch) c.retired_by.ensures
    (word_at h.0 h.1 c.offset-at.ensures.0 4 (omega arith))
