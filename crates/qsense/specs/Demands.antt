-- The user's demands, of the calls on words. The run starts from what `make` leaves on any slice that it accepts; each step has five
-- arbitrary numbers and gets the words as the last one left them. Theorems: proofs/Theorems.antt. Assumes nothing.
use Rattle.std.specs.Prelude.{ℕ, ◌+◌, ◌<◌, ◌≤◌, Bool, true, false, cond, List, [], ◌∷◌, ◌≡◌, ◌≢◌, length, set, leb, eqb}
use Rattle.std.specs.Prelude.{Result}
use Rattle.lists.specs.Tests.{every, count, All}
use Rattle.refusals.specs.declared.Refusal.{Refusal}
use Rattle.model.specs.Params.{Params, most_ticks, delay, buffer_size, word_count}
use Rattle.model.specs.State.{Domain, Step, process_of, is_present}
use Rattle.model.specs.Kinds.{kind_of}
use Rattle.model.specs.Hazards.{here, young}
use Rattle.model.specs.Questions.{Question, ask, first_no, node_in_range, questions}
use Rattle.model.specs.Why.{Why, Explained, Refused, Told}
use Rattle.model.specs.Retire.{scan}
use Rattle.model.specs.Portion.{Scanned, limit_in_range}
use Rattle.model.specs.Machine.{Outcome, portion_step}
use Rattle.model.specs.Reference.{Reference, initial, free_each}
use Rattle.model.specs.Claims.{raises, lowers, accepted_as, TakenBack, turned_free, freed_count, Matches, Bounded}
use Rattle.model.specs.Claims.{History, no_history, recorded}
use Rattle.model.specs.Claims.{led, Exact, ExactPortion}
use Rattle.model.specs.Rounds.{Runner, comes_or_goes, owner_leaves, FreedInRounds}
use Rattle.layout.specs.Shape.{word}
use Rattle.layout.specs.Codecs.{visibility_word, lateness_word}
use Rattle.layout.specs.Encode.{encode, decode, params_in}
use Rattle.layout.specs.Words.{well_formed}
use Rattle.layout.specs.Ranges.{in_range}
use Rattle.trace.specs.Widths.{most_bytes}
use Rattle.trace.specs.Trace.{Reading, refused, given, trailer_right, params_of, front_of, trace_of}
use Rattle.trace.specs.Values.{opened_value, refusal_of}
use Rattle.trace.specs.declared.Header.{Header}
use Rattle.qsense.specs.Calls.{Reply, PortionReply, refusing, declining, make_words, step_words, portion_words}
use Rattle.qsense.specs.Calls.{reachable_words, why_words, run_words}
use Rattle.qsense.specs.Numbers.{numbers_of}

-- ---- Demand 1: the number of the first question with the answer no, in the paper's order; value 0, the same words

-- what is asked before a domain is made, before the reachable count (the panel), before it is told why a node waits, before a step, and of
-- a trace (the book)
abbrev pub make_questions : List ℕ → Params → List Question
make_questions ws a = ask 1 (in_range a) ∷ ask 2 (eqb (length ws) (word_count a)) ∷ []

abbrev pub reachable_questions : List ℕ → List Question
reachable_questions ws = ask 3 (well_formed ws) ∷ []

abbrev pub why_questions : List ℕ → ℕ → List Question
why_questions ws c = ask 3 (well_formed ws) ∷ ask 7 (node_in_range (decode ws) c) ∷ []

abbrev pub step_questions : List ℕ → Step → List Question
step_questions ws s = ask 3 (well_formed ws) ∷ questions (kind_of s.kind) (decode ws) s

abbrev pub short : List ℕ → Bool
short bs = leb (length bs) most_bytes

abbrev pub trace_questions : List ℕ → List Question
trace_questions bs = ask 18 (short bs) ∷ ask 19 (trailer_right bs) ∷ ask 1 (in_range (params_of bs)) ∷ []

-- a call on words ws before which qs were asked
pub record Refuses (qs : List Question) (ws : List ℕ) (r : Reply) : Type 0 where
  pub number : r.refusal ≡ first_no qs
  pub unchanged : first_no qs ≢ 0 → r ≡ refusing (first_no qs) ws

-- the same of a portion, which has more numbers
pub record RefusesPortion (qs : List Question) (ws : List ℕ) (r : PortionReply) : Type 0 where
  pub number : r.refusal ≡ first_no qs
  pub unchanged : first_no qs ≢ 0 → r ≡ declining (first_no qs) ws

-- the reading of a trace of which qs were asked: it is refused, with nothing read, or given
pub record Declines {A : Type 0} (qs : List Question) (r : Reading A) : Type 0 where
  pub refuses : first_no qs ≢ 0 → r ≡ refused (first_no qs)
  pub gives : first_no qs ≡ 0 → (x : A) × (r ≡ given x)

-- the answer to why a node waits, before which qs were asked: it is refused, and nothing else is said, or told
pub record Tells (qs : List Question) (e : Explained) : Type 0 where
  pub refuses : first_no qs ≢ 0 → numbers_of e ≡ numbers_of (Refused (first_no qs))
  pub tells : first_no qs ≡ 0 → (w : Why) × (e ≡ Told w)

pub record Demand1 : Type 0 where
  pub make : (ws : List ℕ) (a : Params) → Refuses (make_questions ws a) ws (make_words ws a)
  pub reachable : (ws : List ℕ) → Refuses (reachable_questions ws) ws (reachable_words ws)
  pub why : (ws : List ℕ) (c : ℕ) → Tells (why_questions ws c) (why_words ws c)
  pub step : (ws : List ℕ) (s : Step) → Refuses (step_questions ws s) ws (step_words ws s)
  -- the step's questions
  pub portion : (ws : List ℕ) (p a l : ℕ) → RefusesPortion (step_questions ws (portion_step p a l)) ws (portion_words ws p a l)
  pub trace : (bs : List ℕ) → Declines (trace_questions bs) (trace_of bs)
  -- the number that the code answers for what comes of opening one
  pub opened : (bs : List ℕ) (o : Result Header Refusal) → opened_value o ≡ front_of bs → refusal_of o ≡ first_no (trace_questions bs)

-- ---- Demand 2: after any run the panel call itself answers 0 and accepted publishes and reinserts less accepted removes

abbrev pub accepted_in : (ℕ → Bool) → List ℕ → List Step → ℕ
accepted_in ks ws [] = 0
accepted_in ks ws (s ∷ ss) =
    accepted_as ks s.kind (step_words ws s).refusal + accepted_in ks (step_words ws s).words ss

abbrev pub Demand2 : Type 0
Demand2 =
    (ws : List ℕ) (a : Params) (ss : List Step) → (make_words ws a).refusal ≡ 0
    → ((reachable_words (run_words (make_words ws a).words ss)).refusal ≡ 0)
    × ((reachable_words (run_words (make_words ws a).words ss)).value + accepted_in lowers (make_words ws a).words ss
    ≡ accepted_in raises (make_words ws a).words ss)

-- on any words: a reinsert right after the accepted remove of the same process and node is accepted, and the words are again, every one,
-- what they were
abbrev pub RemoveTakenBackWords : Type 0
RemoveTakenBackWords =
    (ws : List ℕ) (s t : Step) → TakenBack s t → (step_words ws s).refusal ≡ 0
    → step_words (step_words ws s).words t ≡ record { refusal = 0; value = 0; words = ws }

-- the reply with the domain that its words hold
abbrev pub outcome_of : Reply → Outcome
outcome_of r = record { refusal = r.refusal; value = r.value; after = decode r.words }

-- on any words, the freed count that a step answers is the number of nodes turned Free in them; a step with no such count turns none
abbrev pub FreedAreCountedWords : Type 0
FreedAreCountedWords =
    (ws : List ℕ) (s : Step)
    → turned_free (decode ws) (decode (step_words ws s).words) ≡ freed_count s (outcome_of (step_words ws s))

-- 13 only where the process has eight pending stores, 16 only where some process has one that is not young
abbrev pub RefusedForStores : Type 0
RefusedForStores =
    (ws : List ℕ) (s : Step)
    → ((step_words ws s).refusal ≡ 13 → buffer_size ≤ length (here (decode ws) s).buffer)
    × ((step_words ws s).refusal ≡ 16 → every (young (decode ws)) (decode ws).processes ≡ false)

-- ---- why a node waits, on any words

-- whatever is told is exact; a refusal tells nothing
abbrev pub ToldExactly : Domain → ℕ → Explained → Type 0
ToldExactly d c (Refused n) = Unit {0}
ToldExactly d c (Told w) = Exact d c w

abbrev pub WhyIsExactWords : Type 0
WhyIsExactWords = (ws : List ℕ) (c : ℕ) → ToldExactly (decode ws) c (why_words ws c)

-- ---- a scan in portions, on any words

-- the call and the step of kind 17 are one, whatever the step's hazard is: the same refusal, as many nodes freed, the same words
abbrev pub portion_at : ℕ → ℕ → ℕ → ℕ → Step
portion_at p h a l = record { kind = 17; process = p; hazard = h; node = a; guest = l }

abbrev pub step_reply : PortionReply → Reply
step_reply r = record { refusal = r.refusal; value = r.freed; words = r.words }

abbrev pub PortionIsStepWords : Type 0
PortionIsStepWords = (ws : List ℕ) (p h a l : ℕ) → step_words ws (portion_at p h a l) ≡ step_reply (portion_words ws p a l)

-- what an accepted one answers is exact
abbrev pub scanned_of : PortionReply → Scanned
scanned_of r = record { freed = r.freed; examined = r.examined; next = r.next; left = r.left; after = decode r.words }

abbrev pub PortionIsExactWords : Type 0
PortionIsExactWords =
    (ws : List ℕ) (p a l : ℕ) → (portion_words ws p a l).refusal ≡ 0 → ExactPortion (decode ws) p a l (scanned_of (portion_words ws p a l))

-- a host's loop: calls for process p with these limits, the first from node a and each from where the one before ended, until one is refused;
-- the nodes freed in all, the node to go on from, the words then
pub record PortionsReply : Type 0 where
  pub freed : ℕ
  pub next : ℕ
  pub words : List ℕ

abbrev pub freed_before : ℕ → PortionsReply → PortionsReply
freed_before n r = record { freed = n + r.freed; next = r.next; words = r.words }

abbrev pub portions_words : List ℕ → ℕ → ℕ → List ℕ → PortionsReply
portions_words ws p a [] = record { freed = 0; next = a; words = ws }
portions_words ws p a (l ∷ ls) =
    cond (eqb (portion_words ws p a l).refusal 0)
    (freed_before (portion_words ws p a l).freed (portions_words (portion_words ws p a l).words p (portion_words ws p a l).next ls))
    (record { freed = 0; next = a; words = ws })

-- where it comes from node 0 to the end, it has freed what one scan frees and leaves the words of one scan
abbrev pub PortionsAreScanWords : Type 0
PortionsAreScanWords =
    (ws : List ℕ) (p : ℕ) (ls : List ℕ) → well_formed ws ≡ true → (portions_words ws p 0 ls).next ≡ (decode ws).params.nodes
    → ((portions_words ws p 0 ls).freed ≡ (scan (decode ws) p).value) × ((portions_words ws p 0 ls).words ≡ encode (scan (decode ws) p).after)

-- and for a process that is there it does, with as many limits in range as there are nodes
abbrev pub PortionsEndWords : Type 0
PortionsEndWords =
    (ws : List ℕ) (p : ℕ) (ls : List ℕ) → well_formed ws ≡ true → p < (decode ws).params.processes → (process_of (decode ws) p).present ≡ 1
    → All (λ l. limit_in_range l ≡ true) ls → (decode ws).params.nodes ≤ length ls
    → (portions_words ws p 0 ls).next ≡ (decode ws).params.nodes

-- ---- E is nothing but a longer T, on words that hold a domain

-- T + E where T stands, 0 where E does, and every other word as it is
abbrev pub punctual_words : List ℕ → List ℕ
punctual_words ws = set (set ws visibility_word (word ws visibility_word + word ws lateness_word)) lateness_word 0

abbrev pub punctual_reply : Reply → Reply
punctual_reply r = record { refusal = r.refusal; value = r.value; words = punctual_words r.words }

-- where T + E is in the range of T, after any list of steps the next one has the same answer and leaves the same words, those two aside
abbrev pub LatenessIsDelayWords : Type 0
LatenessIsDelayWords =
    (ws : List ℕ) (ss : List Step) (s : Step) → well_formed ws ≡ true → delay (params_in ws) ≤ most_ticks
    → step_words (run_words (punctual_words ws) ss) s ≡ punctual_reply (step_words (run_words ws ss) s)

-- ---- Demand 3: the model's one claim over a list of steps, with the words for the domain

abbrev pub FollowsWords : Params → Reference → List ℕ → History → List Step → Type 0
FollowsWords a q ws h [] = Unit {0}
FollowsWords a q ws h (s ∷ ss) =
    (cs : List ℕ)
    × Matches a q s (outcome_of (step_words ws s)) cs
    × Bounded a (recorded q s (outcome_of (step_words ws s)) h) s (outcome_of (step_words ws s))
    (free_each (led q s (outcome_of (step_words ws s))) cs)
    × FollowsWords a (free_each (led q s (outcome_of (step_words ws s))) cs) (step_words ws s).words
    (recorded q s (outcome_of (step_words ws s)) h) ss

abbrev pub Demand3Words : Type 0
Demand3Words =
    (ws : List ℕ) (a : Params) (ss : List Step) → (make_words ws a).refusal ≡ 0
    → FollowsWords a (initial a.processes a.hazards a.nodes) (make_words ws a).words no_history ss

-- ---- Freed within seven rounds: the model's claim, with the step call for the rules

-- steps by calls; the words hold a domain
abbrev pub calling : Runner (List ℕ)
calling = record { holds = decode; refusal = λ ws s. (step_words ws s).refusal; after = λ ws s. (step_words ws s).words }

abbrev pub SevenRoundsWords : Type 0
SevenRoundsWords =
    (ws : List ℕ) (a : Params) (ss : List Step) → (make_words ws a).refusal ≡ 0
    → FreedInRounds calling (λ _. comes_or_goes) 7 (run_words (make_words ws a).words ss)

-- more than the paper asks: it is enough that the node's owner does not leave
abbrev pub SevenRoundsOfOwnerWords : Type 0
SevenRoundsOfOwnerWords =
    (ws : List ℕ) (a : Params) (ss : List Step) → (make_words ws a).refusal ≡ 0
    → FreedInRounds calling owner_leaves 7 (run_words (make_words ws a).words ss)

-- and six where no more than one process is present
abbrev pub SixRoundsWords : Type 0
SixRoundsWords =
    (ws : List ℕ) (a : Params) (ss : List Step) → (make_words ws a).refusal ≡ 0
    → count is_present (decode (run_words (make_words ws a).words ss)).processes ≤ 1
    → FreedInRounds calling owner_leaves 6 (run_words (make_words ws a).words ss)
