-- `why::answer` meets its contract: what is written is the line of the number that the argument gives. Assumes nothing.
use Rattle.std.proofs.Common.{sym, ap, ◌∙◌, Option, ℕ, arith}
use Rattle.explain.specs.Explains.{printed_of, printed, Says}
use Rattle.why.proofs.answer.Goals as goal

pub write_line-requires : goal.write_line-requires
unfolding printed
write_line-requires g c =
    let said : Says c.args.card c.args.book.now _ _ = c.line_of.ensures in
    (omega arith, c.requires.0, c.args.book.now, said.text ∙ sym (ap (λ (r : Option ℕ). printed_of r c.args.book.now) c.requires.1))
