-- `pass::go_over` meets its contract. The invariant is what `further` promises, of the first i nodes. Assumes nothing.
use Rattle.nodes.proofs.GoingOver.{starts, few, stops, ends}
use mathlib.Core.Path.{refl, sym, ◌∙◌}
use native.Mathlib.Omega.{arith}
use Rattle.nodes.proofs.pass.go_over.Goals as goal

pub loop-i-init : goal.loop-i-init
loop-i-init c = (omega arith, starts refl)

pub returns-then-state_of-from : goal.returns-then-state_of-from
returns-then-state_of-from c =
    stops c.requires.0 c.loop-i-test.true (omega arith)

pub further-known-requires : goal.further-known-requires
further-known-requires c =
    record {
      part = (c.requires.0, c.loop-i-test.true, omega (arith, c.state_of.ensures, c.from.ensures, c.if-state_of-from.false));
      limits_len = (c.requires.1, c.weights-weights.ensures, few c.loop-i.invariant.1);
    }

pub loop-i-preserved : goal.loop-i-preserved
loop-i-preserved c = (omega arith, c.further-known.ensures _ c.loop-i.invariant.1)

pub returns-then-is_clean : goal.returns-then-is_clean
returns-then-is_clean c =
    ends {i = c.loop-i.i} (omega arith) c.loop-i.invariant.1 (sym c.if-is_clean.true ∙ c.is_clean.ensures)
