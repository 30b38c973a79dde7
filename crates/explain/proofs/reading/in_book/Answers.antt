-- `reading::in_book` meets its contract: a book that is found is run to its end, another is refused by its number. Assumes nothing.
use mathlib.Core.Path.{sym, ap, ◌∙◌}
use Rattle.std.specs.Prelude.{Err}
use Rattle.std.proofs.lemmas.Result.{err_from_is_err_and}
use Rattle.waiting.specs.Values.{explained_value}
use Rattle.explain.proofs.Ways.{in-found, in-refused}
use Rattle.explain.proofs.reading.in_book.Goals as goal

pub in_found-requires : goal.in_found-requires
in_found-requires c = sym c.in_ok-header.ensures

pub returns-in_err-header : goal.returns-in_err-header
returns-in_err-header c =
    let (_, r, q) = err_from_is_err_and _ c.from_residual.ensures.1 in
    ap explained_value (r ∙ ap Err q) ∙ in-refused c.args.card c.args.bytes.now _ c.in_err-header.ensures

pub returns : goal.returns
returns c = c.in_found.ensures ∙ in-found c.args.card c.args.bytes.now _ (sym c.in_ok-header.ensures)
