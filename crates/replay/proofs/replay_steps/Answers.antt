-- `replay::replay_steps` meets its contract. The loop's invariant: i steps are taken, and the words and the print are on the way (`Going`)
-- to what all of them leave. Assumes nothing.
use Prim.Native.Nat.{ℕ, ◌+◌, ◌*◌}
use mathlib.Core.Path.{refl, ap}
use native.Mathlib.Omega.{arith}
use borrow.Author.Rules.{rules}
use Rattle.trace.specs.Bytes.{step_at}
use Rattle.replay.proofs.Turns.{going_start, going_on, going_end}
use Rattle.replay.proofs.replay_steps.Goals as goal

pub loop-i-init : goal.loop-i-init
loop-i-init c =
    let sound = c.requires.sound in
    (omega arith, refl, refl, going_start _ _ _ _ _ _ _ (sound.0, c.reachable_count-reachable.ensures))

pub replay_step-turn-requires : goal.replay_step-turn-requires
replay_step-turn-requires c =
    let going = c.loop-i.invariant.3 in
    ((going.words.sound, going.count), omega arith, omega (arith, going.room))

pub loop-i-preserved : goal.loop-i-preserved
loop-i-preserved c =
    let first = c.args.first in
    let step = ap (λ (n : ℕ). step_at c.args.bytes.now (first + 12 * n)) c.wide.ensures.0 in (
      omega arith,
      search rules,
      search rules,
      going_on _ _ _ _ _ _ _ (omega arith) step _ _ _ _ _ _ _ _ _ c.loop-i.invariant.3 c.replay_step-turn.ensures,
    )

pub returns : goal.returns
returns c = going_end _ _ _ _ _ _ _ _ _ _ _ (omega arith) c.loop-i.invariant.3
