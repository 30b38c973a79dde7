-- `waiting::explain` meets its contract: 7, or both answers. Assumes nothing.
use mathlib.Core.Path.{ap, ◌∙◌}
use borrow.Author.Tests.{lt-ltb}
use Rattle.model.specs.Why.{Told, why}
use Rattle.layout.specs.Encode.{decode}
use Rattle.layout.proofs.Sound.{head_words_lem}
use native.Mathlib.Omega.{arith}
use Rattle.waiting.proofs.explain.Goals as goal

pub reason_of-reason-requires : goal.reason_of-reason-requires
reason_of-reason-requires c =
    let m = ap (λ b. b.nodes) c.bounds.ensures in
    (c.requires, omega (arith, m, (head_words_lem c.args.words.now).nodes))

pub returns : goal.returns
unfolding why
returns c =
    let d = decode c.args.words.now in
    let m = ap (λ b. b.nodes) c.bounds.ensures in
    (λ t. Told (record { reason = c.reason_of-reason.ensures t; behind = c.behind_in-behind.ensures t }))
    ∙ rw (lt-ltb c.args.c.0 d.params.nodes (omega (arith, m)))
