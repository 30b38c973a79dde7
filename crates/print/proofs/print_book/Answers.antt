-- `print::print_book` meets its contract: a book that is found is printed, another is refused by its number. Assumes nothing.
use mathlib.Core.Path.{sym, ap, ◌∙◌}
use native.Mathlib.Omega.{arith}
use Rattle.trace.specs.Trace.{refused}
use Rattle.trace.specs.Values.{opened_value}
use Rattle.text.proofs.Sizes.{ten-most}
use Rattle.print.proofs.FoundOrRefused.{not_found}
use Rattle.print.proofs.print_book.Goals as goal

pub print_found-requires : goal.print_found-requires
print_found-requires c = (sym c.open_trace.ensures ∙ ap opened_value c.in-Ok.is, c.requires)

pub put_refused-requires : goal.put_refused-requires
put_refused-requires c =
    let fits = c.requires in omega (arith, ten-most c.from.result, fits)

pub returns-in-Err : goal.returns-in-Err
returns-in-Err c =
    let refusal = ap refused c.from.ensures ∙ sym (ap opened_value c.in-Err.is) in
    not_found _ _ _ _ _ (refusal ∙ c.open_trace.ensures) c.requires c.put_refused.ensures
