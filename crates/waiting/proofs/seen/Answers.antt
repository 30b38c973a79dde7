-- `waiting::seen` meets its contract: there is a first process that shows the node, or none. Assumes nothing.
use Prim.Native.Nat.{◌+◌}
use mathlib.Core.Path.{refl, sym, ap, ◌∙◌}
use native.Mathlib.Numerals.{add-one}
use native.Mathlib.Omega.{arith}
use Rattle.std.specs.Option.{is_some}
use Rattle.model.specs.Why.{seen_by}
use Rattle.layout.specs.Encode.{decode}
use Rattle.domain.proofs.Found.{process-found, process-none, hazard-found}
use Rattle.domain.proofs.ReadParams.{processes-length}
use Rattle.waiting.proofs.Answers.{seen_at, seen-nowhere, shown-by}
use Rattle.waiting.proofs.seen.Goals as goal

pub unwrap-requires : goal.unwrap-requires
unwrap-requires c =
    let a = c.args in
    let q = process-found (sym c.in-Some.is ∙ c.process.ensures) in
    ap is_some c.hazard.ensures
    ∙ shown-by c.requires.0 a.p.0 (a.c.0 + 1) c.in-Some.q.0 q.0 (omega (arith, q.0, q.1))

pub returns-in-Some : goal.returns-in-Some
returns-in-Some c =
    let a = c.args in
    let d = decode a.words.now in
    let q = process-found (sym c.in-Some.is ∙ c.process.ensures) in
    let h = hazard-found (sym c.unwrap.ensures ∙ c.hazard.ensures) in
    seen_at d a.p.0 (a.c.0 + 1) q.0 h.0 (omega (arith, q.0, q.1, processes-length c.requires.0))
    ∙ ap (seen_by d a.p.0) (add-one a.c.0)

pub returns-in-None : goal.returns-in-None
returns-in-None c =
    let a = c.args in
    let d = decode a.words.now in
    let none = process-none (sym c.in-None.is ∙ c.process.ensures) in
    seen-nowhere d a.p.0 (a.c.0 + 1) refl (omega (arith, none, processes-length c.requires.0))
    ∙ ap (seen_by d a.p.0) (add-one a.c.0)
