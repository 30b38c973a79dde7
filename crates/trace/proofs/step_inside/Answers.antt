-- `trace::step_inside` meets its contract: three bytes and two words that are there. Assumes nothing.
use native.Mathlib.Omega.{arith}
use Rattle.trace.specs.Bytes.{step_in}
use Rattle.trace.proofs.step_inside.Goals as goal

pub returns : goal.returns
unfolding step_in
returns c = (
  λ t.
      record {
        kind = c.from.ensures t;
        process = c.from-2.ensures t;
        hazard = c.from-3.ensures t;
        node = c.word_at.ensures t;
        guest = c.word_at-2.ensures t;
      },
  (let low = c.type_inv.bytes c.args.at in omega (arith, low, c.from.ensures)),
)
