-- `replay::replay` meets its contract: the first line, the lines of the steps, the last line (`Whole`). Assumes nothing.
use mathlib.Core.Path.{◌∙◌}
use native.Mathlib.Omega.{arith}
use Rattle.trace.specs.Values.{header_value}
use Rattle.replay.proofs.Whole.{inside, ranged, few-steps, first-line, made-sound, last_line_lem, replayed}
use Rattle.replay.proofs.replay.Goals as goal

pub write_fresh-requires : goal.write_fresh-requires
write_fresh-requires c =
    (ranged c.args.bytes.now (header_value c.args.header) c.requires.0, omega (arith, c.requires))

pub put_params-start-requires : goal.put_params-start-requires
put_params-start-requires c =
    let a = c.args in
    omega (arith, first-line a.bytes.now (header_value a.header) c.requires.0)

pub replay_steps-turn-requires : goal.replay_steps-turn-requires
replay_steps-turn-requires c =
    let bs = c.args.bytes.now in
    let f = header_value c.args.header in
    let opened = c.requires.0 in
    let few = few-steps bs f opened in
    let line = first-line bs f opened in record {
      sound = (made-sound bs f opened _ c.write_fresh.ensures, inside bs f opened);
      count_le_most_steps = (few, omega (arith, few, line, c.put_params-start.ensures.ends));
    }

pub put_end-requires : goal.put_end-requires
put_end-requires c =
    let bs = c.args.bytes.now in
    let f = header_value c.args.header in
    let begun = c.put_params-start.ensures.ends in
    let last =
    last_line_lem bs f c.requires.0 _ c.write_fresh.ensures _ _ _ _ _ _ c.replay_steps-turn.ensures begun
    _ _ c.clock-clock.ensures (c.from-path.ensures ∙ c.path.ensures) in
    omega (arith, last)

pub returns : goal.returns
returns c =
    let bs = c.args.bytes.now in
    let f = header_value c.args.header in
    let begun = c.put_params-start.ensures.ends in
    replayed bs f c.requires.0 _ c.write_fresh.ensures _ _ _ _ _ _ c.replay_steps-turn.ensures begun
    _ _ c.clock-clock.ensures (c.from-path.ensures ∙ c.path.ensures) _ _ _ c.requires.2 (omega arith) c.put_params-start.ensures
    c.put_end.ensures
