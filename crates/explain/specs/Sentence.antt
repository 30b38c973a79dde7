-- The line that the program `why` prints, in the paper's words, and how long it may be. Assumes nothing.
use Rattle.std.specs.Prelude.{ℕ, ◌≤◌, cond, List, [], ◌∷◌, ◌++◌, ◌≡◌, eqb, length, take}
use Rattle.model.specs.State.{Free, Allocated, Reachable}
use Rattle.model.specs.Why.{Reason, NotRetired, Young, Visible, Ready, Behind, NotAsked, Nobody, Lagging, Why}
use Rattle.model.specs.Why.{Explained, Refused, Told}
use Rattle.text.specs.Text.{bytes, number_text, space, newline, refused_text, Put}

abbrev pub colon : ℕ
colon = 58

-- of a state that is not Retired
abbrev pub state_text : ℕ → List ℕ
state_text s =
    cond (eqb s Free) (bytes "Free")
    (cond (eqb s Allocated) (bytes "Allocated")
    (cond (eqb s Reachable) (bytes "Reachable")
    (bytes "Removed")))

-- one tick, and any other number of ticks
abbrev pub ticks_text : ℕ → List ℕ
ticks_text t = cond (eqb t 1) (bytes "tick") (bytes "ticks")

abbrev pub young_text : ℕ → List ℕ
young_text t = bytes "too young, " ++ number_text t space ++ ticks_text t ++ bytes " until a scan can free it"

abbrev pub visible_text : ℕ → ℕ → List ℕ
visible_text q h =
    bytes "on the board as its owner sees it, worker " ++ number_text q space ++ bytes "slot " ++ number_text h space ++ bytes "names it"

abbrev pub reason_text : Reason → List ℕ
reason_text (NotRetired s) = bytes "not Retired, it is " ++ state_text s
reason_text (Young t) = young_text t
reason_text (Visible q h) = visible_text q h
reason_text Ready = bytes "ready, a scan by its owner would free it now"

abbrev pub lagging_text : ℕ → List ℕ
lagging_text q = bytes "; worker " ++ number_text q space ++ bytes "has not seen the new epoch"

abbrev pub behind_text : Behind → List ℕ
behind_text NotAsked = []
behind_text Nobody = bytes "; every present worker has seen the new epoch"
behind_text (Lagging q) = lagging_text q

-- the line of card c
abbrev pub why_text : ℕ → Why → List ℕ
why_text c w =
    bytes "card " ++ number_text c colon ++ bytes " " ++ reason_text w.reason ++ behind_text w.behind ++ (newline ∷ [])

unfoldable pub sentence : ℕ → Explained → List ℕ
sentence c (Refused n) = refused_text n
sentence c (Told w) = why_text c w

-- ---- the most bytes of each

-- a word has at most ten digits, and a byte comes after them
abbrev pub most_number : ℕ
most_number = 11

abbrev pub most_state : ℕ
most_state = 9

abbrev pub most_ticks : ℕ
most_ticks = 5

abbrev pub most_reason : ℕ
most_reason = 77

abbrev pub most_behind : ℕ
most_behind = 46

abbrev pub most_line : ℕ
most_line = 141

-- ---- what is put into a buffer

-- the text put into it from at on, no longer than the most, which ends before at'
pub record PutUpto (most : ℕ) (out : List ℕ) (at : ℕ) (text out' : List ℕ) (at' : ℕ) : Type 0 where
  pub put : Put out at text (length text) out' at'
  pub few : length text ≤ most

-- the first n bytes are what is said of card c
pub record Said (c : ℕ) (e : Explained) (out' : List ℕ) (n : ℕ) : Type 0 where
  pub text : take n out' ≡ sentence c e
  pub room : n ≤ most_line
