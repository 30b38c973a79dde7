-- What `why` prints of the paper's worked book and of inputs on the edge, each line written by hand. Assumes nothing.
use Rattle.std.specs.Prelude.{ℕ, List, [], ◌∷◌, ◌++◌, ◌≡◌, replicate}
use Prim.Native.String.{String}
use Rattle.trace.specs.Written.{word_bytes}
use Rattle.trace.specs.Cases.{paper_bytes, mark}
use Rattle.text.specs.Text.{bytes, newline}
use Rattle.explain.specs.Explains.{printed}

pub record Case : Type 0 where
  pub argument : String
  pub input : List ℕ
  pub text : List ℕ

abbrev pub Printed : Case → Type 0
Printed c = printed (bytes c.argument) c.input ≡ c.text

abbrev pub case : String → List ℕ → List ℕ → Case
case a bs t = record { argument = a; input = bs; text = t }

abbrev pub line : String → List ℕ
line s = bytes s ++ (newline ∷ [])

-- a desk of one worker, one slot and one card, T = 1, Q = 1, C = 1, as it is made: 47 words
abbrev pub fresh_bytes : List ℕ
fresh_bytes =
    word_bytes 1 ++ word_bytes 1 ++ word_bytes 1 ++ word_bytes 1 ++ word_bytes 1 ++ word_bytes 1 ++ replicate 32 0 ++ word_bytes 1 ++ replicate 128 0

abbrev pub cases : List Case
cases =
    -- the book of 'The step book and its print': card 0 is retired by worker 0, and worker 1 has it in its slot
    case "0" paper_bytes (line "card 0: on the board as its owner sees it, worker 1 slot 0 names it")
    ∷ case "000000001" paper_bytes (line "card 1: not Retired, it is Free")
    -- a desk of two cards
    ∷ case "2" paper_bytes (line "refused 7")
    -- no number: nothing on standard output
    ∷ case "" paper_bytes []
    ∷ case "0x" paper_bytes []
    ∷ case "0000000000" paper_bytes []
    -- no bytes, a byte, a book's mark alone
    ∷ case "0" [] (line "refused 3")
    ∷ case "0" (1 ∷ []) (line "refused 3")
    ∷ case "0" mark (line "refused 19")
    -- a domain's words, and a byte after them
    ∷ case "0" fresh_bytes (line "card 0: not Retired, it is Free; every present worker has seen the new epoch")
    ∷ case "1" fresh_bytes (line "refused 7")
    ∷ case "0" (fresh_bytes ++ (0 ∷ [])) (line "refused 3")
    ∷ []
