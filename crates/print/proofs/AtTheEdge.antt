-- The paper's worked book prints the paper's lines, by computation. Assumes nothing.
use mathlib.Core.Path.{◌≡◌, refl, ap, ◌∙◌}
use Rattle.model.specs.Machine.{step, fresh}
use Rattle.trace.specs.Cases.{paper_trace}
use Rattle.trace.proofs.AtTheEdge.{paper-read}
use Rattle.text.specs.Text.{digits, digit_count}
use Rattle.replay.specs.Lines.{step_lines, book_text}
use Rattle.print.specs.Printed.{reading_text, printed}
use Rattle.print.specs.Cases.{paper_text, PaperPrinted}

lines : book_text paper_trace ≡ paper_text
unfolding book_text step_lines digits digit_count step fresh
lines = refl

pub paper-printed : PaperPrinted
unfolding printed
paper-printed = ap reading_text paper-read ∙ lines
