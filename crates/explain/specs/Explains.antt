-- What the program `why` prints: the bytes of its output by those of its argument and its input. Assumes nothing.
use Rattle.std.specs.Prelude.{ℕ, Option, Some, None, List, []}
use Rattle.explain.specs.Number.{number_in}
use Rattle.explain.specs.Sentence.{sentence, Said}
use Rattle.explain.specs.Input.{explained_in}

-- of a card's number and the input; without a number nothing, and standard error says how to call it
abbrev pub printed_of : Option ℕ → List ℕ → List ℕ
printed_of None bs = []
printed_of (Some c) bs = sentence c (explained_in c bs)

-- of the argument and the input
unfoldable pub printed : List ℕ → List ℕ → List ℕ
printed arg bs = printed_of (number_in arg) bs

-- the first n bytes of the buffer are what is printed of card c and the input
abbrev pub Says : ℕ → List ℕ → List ℕ → ℕ → Type 0
Says c bs out' n = Said c (explained_in c bs) out' n
