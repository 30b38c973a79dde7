-- What the program `why` makes of its input's bytes: a step book or a domain's words, told by the book's mark. Assumes nothing.
use Rattle.std.specs.Prelude.{ℕ, zero, suc, ◌+◌, ◌-◌, ◌/◌, ◌%◌, Bool, ◌&&◌, cond, List, [], ◌∷◌, length, leb, ltb, eqb}
use Rattle.model.specs.Why.{Explained, Refused, explained}
use Rattle.trace.specs.Widths.{most_bytes, word_size}
use Rattle.trace.specs.Bytes.{word_at, mark_at}
use Rattle.trace.specs.Trace.{Reading, refused, given, Trace, trace_of}
use Rattle.replay.specs.Turn.{end_of}
use Rattle.qsense.specs.Calls.{why_words}

-- n words from i on
abbrev pub words_from : List ℕ → ℕ → ℕ → List ℕ
words_from bs i zero = []
words_from bs i (suc n) = word_at bs i ∷ words_from bs (i + word_size) n

abbrev pub words_in : List ℕ → List ℕ
words_in bs = words_from bs 0 (length bs / word_size)

-- the last four bytes are the mark of a step book; no well-formed domain's are
abbrev pub marked : List ℕ → Bool
marked bs = leb word_size (length bs) && mark_at bs (length bs - word_size)

-- of card c in a step book: its number, or what is so after its last step
abbrev pub in_book : ℕ → Reading Trace → Explained
in_book c (refused n) = Refused n
in_book c (given t) = explained (end_of t) c

-- of card c in a domain's words: 3 unless they are whole words, and then what the call says
abbrev pub in_words : ℕ → List ℕ → Explained
in_words c bs = cond (eqb (length bs % word_size) 0) (why_words (words_in bs) c) (Refused 3)

-- of card c in any bytes: more than a step book may have are 18, as they are to `desk`; no domain has so many
unfoldable pub explained_in : ℕ → List ℕ → Explained
explained_in c bs = cond (ltb most_bytes (length bs)) (Refused 18) (cond (marked bs) (in_book c (trace_of bs)) (in_words c bs))
