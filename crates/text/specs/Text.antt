-- A number in decimal digits, and the lines of a book's print, as bytes. Assumes nothing.
use Rattle.std.specs.Prelude.{ℕ, zero, suc, ◌+◌, ◌/◌, ◌%◌, cond, List, [], ◌∷◌, ◌++◌, ◌≡◌, length, ltb}
use Prim.Native.Char.{code}
use Prim.Native.String.{String}
use Prim.Native.String as S
use Rattle.std.proofs.lemmas.List.Edits.{sets}
use Rattle.model.specs.Params.{Params}

-- the last k decimal digits of n, the highest first
unfoldable pub digits : ℕ → ℕ → List ℕ
digits zero n = []
digits (suc k) n = digits k (n / 10) ++ ((48 + n % 10) ∷ [])

-- how many digits a word has
unfoldable pub digit_count : ℕ → ℕ
digit_count n =
    cond (ltb n 10) 1 (cond (ltb n 100) 2 (cond (ltb n 1000) 3 (cond (ltb n 10000) 4
    (cond (ltb n 100000) 5 (cond (ltb n 1000000) 6 (cond (ltb n 10000000) 7 (cond (ltb n 100000000) 8
    (cond (ltb n 1000000000) 9 10))))))))

-- n's digits, and a byte after them
abbrev pub number_text : ℕ → ℕ → List ℕ
number_text n after = digits (digit_count n) n ++ (after ∷ [])

-- its bytes
abbrev pub number_size : ℕ → ℕ
number_size n = digit_count n + 1

-- the bytes of a quoted text
abbrev pub bytes : String → List ℕ
bytes S.[] = []
bytes (S.◌∷◌ c s) = code c ∷ bytes s

abbrev pub space : ℕ
space = 32

abbrev pub newline : ℕ
newline = 10

-- ---- the lines of a book's print, and their bytes

abbrev pub desk_word : List ℕ
desk_word = 100 ∷ 101 ∷ 115 ∷ 107 ∷ space ∷ []

abbrev pub end_word : List ℕ
end_word = 101 ∷ 110 ∷ 100 ∷ space ∷ []

abbrev pub refused_word : List ℕ
refused_word = 114 ∷ 101 ∷ 102 ∷ 117 ∷ 115 ∷ 101 ∷ 100 ∷ space ∷ []

-- `desk N K M T Q C E`
abbrev pub params_text : Params → List ℕ
params_text a =
    desk_word
    ++ number_text a.processes space
    ++ number_text a.hazards space
    ++ number_text a.nodes space
    ++ number_text a.visibility_bound space
    ++ number_text a.quiescence_threshold space
    ++ number_text a.fallback_threshold space
    ++ number_text a.lateness newline

abbrev pub params_text_size : Params → ℕ
params_text_size a =
    length desk_word
    + number_size a.processes
    + number_size a.hazards
    + number_size a.nodes
    + number_size a.visibility_bound
    + number_size a.quiescence_threshold
    + number_size a.fallback_threshold
    + number_size a.lateness

-- `i kind refusal value panel`
abbrev pub step_text : ℕ → ℕ → ℕ → ℕ → ℕ → List ℕ
step_text i kind refusal value reachable =
    number_text i space
    ++ number_text kind space
    ++ number_text refusal space
    ++ number_text value space
    ++ number_text reachable newline

abbrev pub step_text_size : ℕ → ℕ → ℕ → ℕ → ℕ → ℕ
step_text_size i kind refusal value reachable =
    number_size i + number_size kind + number_size refusal + number_size value + number_size reachable

-- `end clock path panel`
abbrev pub end_text : ℕ → ℕ → ℕ → List ℕ
end_text clock path reachable =
    end_word ++ number_text clock space ++ number_text path space ++ number_text reachable newline

abbrev pub end_text_size : ℕ → ℕ → ℕ → ℕ
end_text_size clock path reachable = length end_word + number_size clock + number_size path + number_size reachable

-- `refused n`
abbrev pub refused_text : ℕ → List ℕ
refused_text n = refused_word ++ number_text n newline

abbrev pub refused_text_size : ℕ → ℕ
refused_text_size n = length refused_word + number_size n

-- ---- texts put into a buffer

-- the text put into it from at on, which is so long and ends before at'
pub record Put (out : List ℕ) (at : ℕ) (text : List ℕ) (size : ℕ) (out' : List ℕ) (at' : ℕ) : Type 0 where
  pub bytes : out' ≡ sets out at text
  pub long : length text ≡ size
  pub ends : at' ≡ at + size
