-- `reading::asked` meets its contract: the questions in their order. Assumes nothing.
use mathlib.Core.Path.{◌∙◌}
use native.Mathlib.Omega.{arith}
use Rattle.explain.proofs.Ways.{too_long, in_book_lem, in_words_lem}
use Rattle.explain.proofs.reading.asked.Goals as goal

pub returns-then-bytes-gt-BYTES : goal.returns-then-bytes-gt-BYTES
returns-then-bytes-gt-BYTES c =
    let a = c.args in
    too_long a.card a.bytes.now (omega arith)

pub returns-then-marked : goal.returns-then-marked
returns-then-marked c =
    let a = c.args in
    let mark = c.marked in
    c.in_book.ensures ∙ in_book_lem a.card a.bytes.now mark.result mark.ensures (omega arith) c.if-marked.true

pub returns : goal.returns
returns c =
    let a = c.args in
    let mark = c.marked in
    c.in_words.ensures ∙ in_words_lem a.card a.bytes.now mark.result mark.ensures (omega arith) c.if-marked.false
