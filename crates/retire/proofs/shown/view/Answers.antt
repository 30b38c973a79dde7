-- `shown::view` meets its contract: the stretch lent holds the process, which is the scanning one or another. Assumes nothing.
use mathlib.Core.Bool.{true, false}
use mathlib.Core.Path.{ap, ◌∙◌, sym}
use borrow.Author.Tests.{eq-eqb, ne_eqb}
use Rattle.model.specs.Retire.{visible_in}
use Rattle.domain.specs.Effects.{process_in}
use Rattle.domain.proofs.Lent.{lent-process, lent-stretch}
use native.Mathlib.Omega.{arith}
use Rattle.retire.proofs.shown.view.Goals as goal

pub own-requires : goal.own-requires
own-requires c =
    let h = c.requires in
    (lent-stretch h.0 h.1 c.place_of-at.ensures, omega (arith, h.2, c.place_of-at.ensures.k))

pub visible-requires : goal.visible-requires
visible-requires c =
    let h = c.requires in
    (lent-stretch h.0 h.1 c.place_of-at.ensures, omega (arith, h.2, c.place_of-at.ensures.k))

pub returns-then-q-p : goal.returns-then-q-p
returns-then-q-p c =
    let h = c.requires in
    let a = c.args in
    c.own.ensures
    ∙ ap (visible_in true) (lent-process h.0 h.1 c.place_of-at.ensures)
    ∙ ap (λ b. visible_in b (process_in a.words.now a.q.0)) (sym (eq-eqb _ _ c.if-q-p.true))

pub returns-else-q-p : goal.returns-else-q-p
returns-else-q-p c =
    let h = c.requires in
    let a = c.args in
    c.visible.ensures
    ∙ ap (visible_in false) (lent-process h.0 h.1 c.place_of-at.ensures)
    ∙ ap (λ b. visible_in b (process_in a.words.now a.q.0)) (sym (ne_eqb _ _ c.if-q-p.false))
