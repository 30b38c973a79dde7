-- Each record of the layout is what its words say, and its words are what it says; and the paper's layout itself. Assumes nothing.
use Rattle.std.specs.Prelude.{ℕ, zero, suc, ◌<◌, true, List, [], ◌∷◌, ◌≡◌, refl, length, take}
use Rattle.std.proofs.Common.{arith, get_or-take}
use Rattle.lists.specs.Rows.{Codec}
use Rattle.model.specs.Params.{head_width, lead_width, hazard_width, store_width, node_width}
use Rattle.model.specs.State.{Pending, Hazard, Node}
use Rattle.layout.specs.Shape.{Head, Lead, word}

-- ---- each record as words, in the paper's order

-- the words of a head that are named elsewhere: T and E, the clock, the path, the global epoch
abbrev pub visibility_word : ℕ
visibility_word = 3

abbrev pub lateness_word : ℕ
lateness_word = 6

abbrev pub clock_word : ℕ
clock_word = 7

abbrev pub path_word : ℕ
path_word = 8

abbrev pub epoch_word : ℕ
epoch_word = 9

abbrev pub head_words : Head → List ℕ
head_words h =
    h.params.processes ∷ h.params.hazards ∷ h.params.nodes ∷ h.params.visibility_bound ∷ h.params.quiescence_threshold
    ∷ h.params.fallback_threshold ∷ h.params.lateness ∷ h.clock ∷ h.path ∷ h.epoch ∷ []

abbrev pub head_at : List ℕ → Head
head_at r =
    record {
      params = record {
        processes = word r 0;
        hazards = word r 1;
        nodes = word r 2;
        visibility_bound = word r visibility_word;
        quiescence_threshold = word r 4;
        fallback_threshold = word r 5;
        lateness = word r lateness_word;
      };
      clock = word r clock_word;
      path = word r path_word;
      epoch = word r epoch_word;
    }

-- the word of a lead that says how many stores are pending
abbrev pub stores_word : ℕ
stores_word = 3

-- and the one that says whether its process is present
abbrev pub present_word : ℕ
present_word = 4

abbrev pub lead_words : Lead → List ℕ
lead_words l = l.epoch ∷ l.calls ∷ l.presence ∷ l.stores ∷ l.present ∷ []

abbrev pub lead_at : List ℕ → Lead
lead_at r = record { epoch = word r 0; calls = word r 1; presence = word r 2; stores = word r 3; present = word r 4 }

abbrev pub hazard_words : Hazard → List ℕ
hazard_words h = h.visible ∷ h.assigned ∷ h.validated ∷ []

abbrev pub hazard_at : List ℕ → Hazard
hazard_at r = record { visible = word r 0; assigned = word r 1; validated = word r 2 }

abbrev pub pending_words : Pending → List ℕ
pending_words e = e.hazard ∷ e.node ∷ e.time ∷ []

abbrev pub pending_at : List ℕ → Pending
pending_at r = record { hazard = word r 0; node = word r 1; time = word r 2 }

abbrev pub node_words : Node → List ℕ
node_words n = n.state ∷ n.owner ∷ n.guest ∷ n.retired_at ∷ n.limbo ∷ []

abbrev pub node_at : List ℕ → Node
node_at r = record { state = word r 0; owner = word r 1; guest = word r 2; retired_at = word r 3; limbo = word r 4 }

-- ---- the words at the places from i on, as many as n

abbrev pub words_from : List ℕ → ℕ → ℕ → List ℕ
words_from r i zero = []
words_from r i (suc n) = word r i ∷ words_from r (suc i) n

words-cons : (x : ℕ) (r : List ℕ) (i n : ℕ) → words_from (x ∷ r) (suc i) n ≡ words_from r i n
words-cons x r i zero = refl
words-cons x r i (suc n) = rw (words-cons x r (suc i) n)

-- a list of n words is the words at its places
pub words-all : (n : ℕ) (r : List ℕ) → length r ≡ n → words_from r 0 n ≡ r
words-all zero [] h = refl
words-all zero (x ∷ r) h = absurd (omega arith)
words-all (suc n) [] h = absurd (omega arith)
words-all (suc n) (x ∷ r) h = rw (words-cons x r 0 n, words-all n r (omega arith))

-- a word among the first w
first : (w : ℕ) (r : List ℕ) (i : ℕ) → i < w → word (take w r) i ≡ word r i
first w r i h = get_or-take w r i 0 h

-- ---- only so many words are read

pub head-front : (r : List ℕ) → head_at (take head_width r) ≡ head_at r
head-front r = λ t. record {
  params = record {
    processes = first head_width r 0 (omega arith) t;
    hazards = first head_width r 1 (omega arith) t;
    nodes = first head_width r 2 (omega arith) t;
    visibility_bound = first head_width r visibility_word (omega arith) t;
    quiescence_threshold = first head_width r 4 (omega arith) t;
    fallback_threshold = first head_width r 5 (omega arith) t;
    lateness = first head_width r lateness_word (omega arith) t;
  };
  clock = first head_width r clock_word (omega arith) t;
  path = first head_width r path_word (omega arith) t;
  epoch = first head_width r epoch_word (omega arith) t;
}

pub lead-front : (r : List ℕ) → lead_at (take lead_width r) ≡ lead_at r
lead-front r = λ t. record {
  epoch = first lead_width r 0 (omega arith) t;
  calls = first lead_width r 1 (omega arith) t;
  presence = first lead_width r 2 (omega arith) t;
  stores = first lead_width r 3 (omega arith) t;
  present = first lead_width r 4 (omega arith) t;
}

pub hazard-front : (r : List ℕ) → hazard_at (take hazard_width r) ≡ hazard_at r
hazard-front r = λ t. record {
  visible = first hazard_width r 0 (omega arith) t;
  assigned = first hazard_width r 1 (omega arith) t;
  validated = first hazard_width r 2 (omega arith) t;
}

pub pending-front : (r : List ℕ) → pending_at (take store_width r) ≡ pending_at r
pending-front r = λ t. record {
  hazard = first store_width r 0 (omega arith) t;
  node = first store_width r 1 (omega arith) t;
  time = first store_width r 2 (omega arith) t;
}

pub node-front : (r : List ℕ) → node_at (take node_width r) ≡ node_at r
node-front r = λ t. record {
  state = first node_width r 0 (omega arith) t;
  owner = first node_width r 1 (omega arith) t;
  guest = first node_width r 2 (omega arith) t;
  retired_at = first node_width r 3 (omega arith) t;
  limbo = first node_width r 4 (omega arith) t;
}

-- ---- the codecs; each holds every value

abbrev pub row_codec : {X : Type 0} (w : ℕ) (put : X → List ℕ) (get : List ℕ → X) → ((x : X) → length (put x) ≡ w) → ((x : X) → get (put x) ≡ x)
    → ((r : List ℕ) → length r ≡ w → put (get r) ≡ r) → ((r : List ℕ) → get (take w r) ≡ get r) → Codec X w
row_codec w put get width back forth front =
    record { put = put; get = get; holds = λ _. true; width = width; back = λ x _. back x; forth = forth; front = front }

abbrev pub head_codec : Codec Head head_width
head_codec = row_codec head_width head_words head_at (λ _. refl) (λ _. refl) (words-all head_width) head-front

abbrev pub lead_codec : Codec Lead lead_width
lead_codec = row_codec lead_width lead_words lead_at (λ _. refl) (λ _. refl) (words-all lead_width) lead-front

abbrev pub hazard_codec : Codec Hazard hazard_width
hazard_codec = row_codec hazard_width hazard_words hazard_at (λ _. refl) (λ _. refl) (words-all hazard_width) hazard-front

abbrev pub pending_codec : Codec Pending store_width
pending_codec = row_codec store_width pending_words pending_at (λ _. refl) (λ _. refl) (words-all store_width) pending-front

abbrev pub node_codec : Codec Node node_width
node_codec = row_codec node_width node_words node_at (λ _. refl) (λ _. refl) (words-all node_width) node-front
