-- `replay::end::run_to_end` meets its contract: the steps of a trace that opens are taken on the fresh domain of its parameters. Assumes
-- nothing.
use native.Mathlib.Omega.{arith}
use Rattle.trace.specs.Values.{header_value}
use Rattle.replay.proofs.Whole.{inside, ranged, few-steps, made-sound, come}
use Rattle.replay.proofs.end.run_to_end.Goals as goal

pub write_fresh-requires : goal.write_fresh-requires
write_fresh-requires c =
    (ranged c.args.bytes.now (header_value c.args.header) c.requires.0, omega (arith, c.requires.1))

pub take_steps-requires : goal.take_steps-requires
take_steps-requires c =
    let bs = c.args.bytes.now in
    let f = header_value c.args.header in
    let opened = c.requires.0 in
    (made-sound bs f opened _ c.write_fresh.ensures, inside bs f opened, few-steps bs f opened)

pub returns : goal.returns
returns c =
    let bs = c.args.bytes.now in
    let f = header_value c.args.header in
    let end = c.take_steps.ensures in
    (end.sound, come bs f c.requires.0 _ c.write_fresh.ensures _ end.words_after)
