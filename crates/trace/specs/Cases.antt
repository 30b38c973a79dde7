-- The paper's book and books on the edge, as bytes, with what is to be read in each written by hand. Assumes nothing.
use Rattle.std.specs.Prelude.{ℕ, List, [], ◌∷◌, ◌++◌, ◌≡◌, length, replicate}
use Rattle.model.specs.Params.{params_of}
use Rattle.model.specs.Cases.{params, step_of, allocate, publish, protect, check, use', remove, retire, tick}
use Rattle.trace.specs.Trace.{Reading, refused, given, Trace, trace_of}
use Rattle.trace.specs.Written.{word_bytes}

pub record Case : Type 0 where
  pub bytes : List ℕ
  pub reads : Reading Trace

abbrev pub Reads : Case → Type 0
Reads c = trace_of c.bytes ≡ c.reads

abbrev pub case : List ℕ → Reading Trace → Case
case bs r = record { bytes = bs; reads = r }

-- the book of 'The step book and its print': 13 steps, distance 196, E = 0
abbrev pub paper_bytes : List ℕ
paper_bytes =
    2 ∷ 0 ∷ 0 ∷ 0 ∷ 1 ∷ 0 ∷ 0 ∷ 0 ∷ 2 ∷ 0 ∷ 0 ∷ 0
    ∷ 3 ∷ 0 ∷ 0 ∷ 0 ∷ 1 ∷ 0 ∷ 0 ∷ 0 ∷ 1 ∷ 0 ∷ 0 ∷ 0 ∷ 0 ∷ 0 ∷ 0 ∷ 0
    ∷ 1 ∷ 0 ∷ 0 ∷ 0 ∷ 0 ∷ 0 ∷ 0 ∷ 0 ∷ 70 ∷ 0 ∷ 0 ∷ 0
    ∷ 2 ∷ 0 ∷ 0 ∷ 0 ∷ 0 ∷ 0 ∷ 0 ∷ 0 ∷ 0 ∷ 0 ∷ 0 ∷ 0
    ∷ 3 ∷ 1 ∷ 0 ∷ 0 ∷ 0 ∷ 0 ∷ 0 ∷ 0 ∷ 0 ∷ 0 ∷ 0 ∷ 0
    ∷ 4 ∷ 1 ∷ 0 ∷ 0 ∷ 0 ∷ 0 ∷ 0 ∷ 0 ∷ 0 ∷ 0 ∷ 0 ∷ 0
    ∷ 7 ∷ 0 ∷ 0 ∷ 0 ∷ 0 ∷ 0 ∷ 0 ∷ 0 ∷ 0 ∷ 0 ∷ 0 ∷ 0
    ∷ 8 ∷ 0 ∷ 0 ∷ 0 ∷ 0 ∷ 0 ∷ 0 ∷ 0 ∷ 0 ∷ 0 ∷ 0 ∷ 0
    ∷ 11 ∷ 0 ∷ 0 ∷ 0 ∷ 0 ∷ 0 ∷ 0 ∷ 0 ∷ 0 ∷ 0 ∷ 0 ∷ 0
    ∷ 11 ∷ 0 ∷ 0 ∷ 0 ∷ 0 ∷ 0 ∷ 0 ∷ 0 ∷ 0 ∷ 0 ∷ 0 ∷ 0
    ∷ 11 ∷ 0 ∷ 0 ∷ 0 ∷ 0 ∷ 0 ∷ 0 ∷ 0 ∷ 0 ∷ 0 ∷ 0 ∷ 0
    ∷ 11 ∷ 0 ∷ 0 ∷ 0 ∷ 0 ∷ 0 ∷ 0 ∷ 0 ∷ 0 ∷ 0 ∷ 0 ∷ 0
    ∷ 10 ∷ 1 ∷ 0 ∷ 0 ∷ 0 ∷ 0 ∷ 0 ∷ 0 ∷ 0 ∷ 0 ∷ 0 ∷ 0
    ∷ 11 ∷ 0 ∷ 0 ∷ 0 ∷ 0 ∷ 0 ∷ 0 ∷ 0 ∷ 0 ∷ 0 ∷ 0 ∷ 0
    ∷ 5 ∷ 1 ∷ 0 ∷ 0 ∷ 0 ∷ 0 ∷ 0 ∷ 0 ∷ 0 ∷ 0 ∷ 0 ∷ 0
    ∷ 13 ∷ 0 ∷ 0 ∷ 0 ∷ 196 ∷ 0 ∷ 0 ∷ 0 ∷ 81 ∷ 66 ∷ 65 ∷ 75 ∷ []

abbrev pub paper_trace : Trace
paper_trace =
    record {
      params = params 2 1 2 3 1 1;
      steps =
          allocate 0 0 70 ∷ publish 0 0 ∷ protect 1 0 0 ∷ check 1 0 ∷ remove 0 0 ∷ retire 0 0 ∷ tick ∷ tick ∷ tick ∷ tick
          ∷ step_of 10 1 0 0 0 ∷ tick ∷ use' 1 0 ∷ [];
    }

-- six parameters of which the first is n, the others 1: all that a book had before E
abbrev pub six : ℕ → List ℕ
six n = n ∷ 0 ∷ 0 ∷ 0 ∷ 1 ∷ 0 ∷ 0 ∷ 0 ∷ 1 ∷ 0 ∷ 0 ∷ 0 ∷ 1 ∷ 0 ∷ 0 ∷ 0 ∷ 1 ∷ 0 ∷ 0 ∷ 0 ∷ 1 ∷ 0 ∷ 0 ∷ 0 ∷ []

-- and E as the seventh
abbrev pub seven : ℕ → ℕ → List ℕ
seven n e = six n ++ word_bytes e

abbrev pub mark : List ℕ
mark = 81 ∷ 66 ∷ 65 ∷ 75 ∷ []

abbrev pub trailer : ℕ → ℕ → List ℕ
trailer count distance = word_bytes count ++ (word_bytes distance ++ mark)

abbrev pub cases : List Case
cases =
    case paper_bytes (given paper_trace)
    -- no step at all: 40 bytes
    ∷ case (seven 1 0 ++ trailer 0 40) (given (record { params = params 1 1 1 1 1 1; steps = [] }))
    -- the unread byte of a step is 255, its card and guest as large as can be
    ∷ case
    (seven 1 0 ++ (255 ∷ 255 ∷ 255 ∷ 255 ∷ 255 ∷ 255 ∷ 255 ∷ 255 ∷ 255 ∷ 255 ∷ 255 ∷ 255 ∷ []) ++ trailer 1 52)
    (given (record { params = params 1 1 1 1 1 1; steps = step_of 255 255 255 4294967295 4294967295 ∷ [] }))
    -- a byte in front is not read
    ∷ case (7 ∷ (seven 1 0 ++ trailer 0 40)) (given (record { params = params 1 1 1 1 1 1; steps = [] }))
    -- nothing; 11 bytes; a trailer alone
    ∷ case [] (refused 19)
    ∷ case (0 ∷ 0 ∷ 0 ∷ 40 ∷ 0 ∷ 0 ∷ 0 ∷ mark) (refused 19)
    ∷ case (trailer 0 40) (refused 19)
    -- a distance of 52 in 51 bytes; QBAL for QBAK
    ∷ case (replicate 11 1 ++ (seven 1 0 ++ trailer 1 52)) (refused 19)
    ∷ case (seven 1 0 ++ (word_bytes 0 ++ (word_bytes 40 ++ (81 ∷ 66 ∷ 65 ∷ 76 ∷ [])))) (refused 19)
    -- a distance of one too many; 2 ^ 30 steps, of which 12 bytes each are nothing in 32 bits; the highest count
    ∷ case (0 ∷ (seven 1 0 ++ trailer 0 41)) (refused 19)
    ∷ case (seven 1 0 ++ trailer 1073741824 40) (refused 19)
    ∷ case (seven 1 0 ++ trailer 4294967295 28) (refused 19)
    -- no process; 17 processes
    ∷ case (seven 0 0 ++ trailer 0 40) (refused 1)
    ∷ case (seven 17 0 ++ trailer 0 40) (refused 1)
    -- request 4: E = 1000 is read, E = 1001 is out of its range
    ∷ case (seven 1 1000 ++ trailer 0 40) (given (record { params = params_of 1 1 1 1 1 1 1000; steps = [] }))
    ∷ case (seven 1 1001 ++ trailer 0 40) (refused 1)
    -- a book of before, with the distance that it had, and with room in front; the distance of now, and no room for it
    ∷ case (six 1 ++ trailer 0 36) (refused 19)
    ∷ case (7 ∷ 7 ∷ 7 ∷ 7 ∷ (six 1 ++ trailer 0 36)) (refused 19)
    ∷ case (six 1 ++ trailer 0 40) (refused 19)
    -- and with the distance of now and the room: E is what was its C
    ∷ case (1 ∷ 0 ∷ 0 ∷ 0 ∷ (six 1 ++ trailer 0 40)) (given (record { params = params_of 1 1 1 1 1 1 1; steps = [] }))
    ∷ []

-- the paper's book with bytes before it that make it 65,536 bytes long: read, whatever they are; 65,537: not
abbrev pub AtTheLimit : Type 0
AtTheLimit = (before : List ℕ) → length before ≡ 65340 → trace_of (before ++ paper_bytes) ≡ given paper_trace

abbrev pub PastTheLimit : Type 0
PastTheLimit = (before : List ℕ) → length before ≡ 65341 → trace_of (before ++ paper_bytes) ≡ refused 18
