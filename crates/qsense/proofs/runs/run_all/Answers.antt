-- `runs::run_all` meets its contract: the way to what the whole list leaves begins, goes on by a step, and ends. Assumes nothing.
use Rattle.qsense.proofs.Turns.{going_start, going_on, going_end}
use mathlib.Core.Path.{◌≡◌, refl}
use native.Mathlib.Omega.{arith}
use borrow.Author.Rules.{rules}
use Rattle.qsense.proofs.runs.run_all.Goals as goal

pub loop-i-init : goal.loop-i-init
loop-i-init c = (omega arith, refl, going_start _ _ _ _ _ c.well_formed-good.ensures)

pub run_step-requires : goal.run_step-requires
run_step-requires c =
    let going = c.loop-i.invariant.2 in
    (going.good, (omega (arith, c.requires), omega (arith, going.long, c.requires)))

pub loop-i-preserved : goal.loop-i-preserved
loop-i-preserved c =
    let going = c.loop-i.invariant.2 in
    (omega arith, search rules, going_on _ _ _ _ _ _ _ _ _ _ (omega arith) (omega (arith, c.requires)) going c.run_step.ensures)

pub returns : goal.returns
returns c =
    let all : c.loop-i.i ≡ c.args.count = omega arith in
    going_end _ _ _ _ _ _ _ _ all c.requires.1 c.loop-i.invariant.2
