-- `waiting::behind_in` meets its contract: on the fast path the first that lags, or none. Assumes nothing.
use mathlib.Core.Path.{refl, sym, ◌∙◌}
use native.Mathlib.Omega.{arith}
use Rattle.layout.specs.Encode.{decode}
use Rattle.domain.proofs.Found.{process-found, process-none}
use Rattle.domain.proofs.ReadParams.{processes-length}
use Rattle.waiting.proofs.Answers.{lagging, nobody}
use Rattle.layout.proofs.Paths.{same-number}
use Rattle.layout.specs.declared.Path.TheVariants.{Fast}
use Rattle.waiting.proofs.behind_in.Goals as goal

pub returns-in-Some : goal.returns-in-Some
returns-in-Some c =
    let fast = sym c.path.ensures ∙ same-number _ Fast c.if-ne.ensures in
    let q = process-found (sym c.in-Some.is ∙ c.laggard.ensures) in
    lagging (decode c.args.words.now) fast q.0 (omega (arith, q.0, q.1, processes-length c.requires))

pub returns-in-None : goal.returns-in-None
returns-in-None c =
    let fast = sym c.path.ensures ∙ same-number _ Fast c.if-ne.ensures in
    let none = process-none (sym c.in-None.is ∙ c.laggard.ensures) in
    nobody (decode c.args.words.now) fast refl (omega (arith, none, processes-length c.requires))
