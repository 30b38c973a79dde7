-- `shown::shows` meets its contract: another process by what it shows, its own by what it knows. Assumes nothing.
use mathlib.Core.Bool.{true, false, not}
use mathlib.Core.Path.{◌≡◌, ap, ◌∙◌, sym}
use borrow.Author.Tests.{eq-eqb, ne_eqb}
use Rattle.std.specs.Option.{is_some}
use Rattle.lists.specs.Tests.{lacks}
use Rattle.model.specs.Retire.{visible_in}
use Rattle.domain.specs.Effects.{process_in}
use Rattle.domain.proofs.Lent.{lent-process, lent-stretch}
use Rattle.retire.proofs.Seen.{shows_first}
use Rattle.retire.proofs.shown.shows.Goals as goal

pub shows-requires : goal.shows-requires
shows-requires c =
    let h = c.requires in
    lent-stretch h.0 h.1 c.place_of-at.ensures

pub returns-then-q-p : goal.returns-then-q-p
returns-then-q-p c =
    let h = c.requires in
    let a = c.args in
    c.shows.ensures
    ∙ ap (λ x. not (lacks (visible_in false x) a.v)) (lent-process h.0 h.1 c.place_of-at.ensures)
    ∙ ap (λ b. not (lacks (visible_in b (process_in a.words.now a.q.0)) a.v)) (sym (ne_eqb _ _ c.if-q-p.true))

pub may_show-requires : goal.may_show-requires
may_show-requires c =
    let h = c.requires in
    lent-stretch h.0 h.1 c.place_of-at.ensures

pub returns-then-not-may_show : goal.returns-then-not-may_show
returns-then-not-may_show c =
    let h = c.requires in
    let a = c.args in
    let x = process_in a.words.now a.q.0 in
    let none : lacks (visible_in true x) a.v ≡ true =
    ap (λ y. lacks (visible_in true y) a.v) (sym (lent-process h.0 h.1 c.place_of-at.ensures))
    ∙ c.may_show.ensures (c.if-not-may_show.true) in
    sym (ap not none) ∙ ap (λ b. not (lacks (visible_in b x) a.v)) (sym (eq-eqb _ _ c.if-q-p.false))

pub returns : goal.returns
returns c =
    let h = c.requires in
    let a = c.args in
    c.is_some.ensures ∙ ap is_some c.hazard.ensures ∙ shows_first h.0 a.p.0 a.v a.q.0 h.1
