-- The six programs that demand 2 shuts out ('Contracts and cases'): what is wrong with each, as a property of programs, and a call to
-- which every such program gives another reply than the one that the contract of `step` fixes. Theorem: proofs/Excluded.antt. Assumes
-- nothing.
use Rattle.std.specs.Prelude.{ℕ, suc, Bool, true, false, ◌&&◌, ◌||◌, cond, List, [], ◌∷◌, ◌++◌, ◌≡◌, ◌≢◌, length, replicate, ltb, eqb}
use Rattle.lists.specs.Tests.{every}
use Rattle.model.specs.Params.{Params}
use Rattle.model.specs.State.{Domain, Step}
use Rattle.model.specs.Kinds.{kind_count}
use Rattle.model.specs.Machine.{fresh}
use Rattle.model.specs.Cases.{params, step_of, allocate, publish, protect, check, use', tick, manage, turnover}
use Rattle.model.specs.Claims.{turned_free, reports_freed, freed_count}
use Rattle.layout.specs.Encode.{encode, decode}
use Rattle.qsense.specs.Calls.{Reply, step_words, run_words}
use Rattle.qsense.specs.Demands.{outcome_of}

-- ---- programs

-- the words and the step that a program is called with
pub record Call : Type 0 where
  pub words : List ℕ
  pub step : Step

abbrev pub call : List ℕ → Step → Call
call ws s = record { words = ws; step = s }

-- a program by its replies: to the calls before, which is all that it may remember, and the call now
abbrev pub Program : Type 0
Program = List Call → Call → Reply

-- the reply that the contract of `step` fixes, whatever was called before
abbrev pub right : Call → Reply
right c = step_words c.words c.step

-- the calls of a run with right replies
abbrev pub calls_from : List ℕ → List Step → List Call
calls_from ws [] = []
calls_from ws (s ∷ ss) = call ws s ∷ calls_from (step_words ws s).words ss

-- every program that is P gives a wrong reply to step s after the steps ss on a fresh domain, if it has not given one before
abbrev pub WrongAfter : Params → List Step → Step → (Program → Type 0) → Type 0
WrongAfter a ss s P =
    (f : Program) → P f
    → f (calls_from (encode (fresh a)) ss) (call (run_words (encode (fresh a)) ss) s)
    ≢ right (call (run_words (encode (fresh a)) ss) s)

-- every program gives a wrong reply to every call, on any words, where P is true of it
abbrev pub WrongWhere : (Program → List Call → Call → Type 0) → Type 0
WrongWhere P = (f : Program) (h : List Call) (c : Call) → P f h c → f h c ≢ right c

-- ---- what is wrong with each

abbrev pub RefusesEach : Program → Type 0
RefusesEach f = (h : List Call) (c : Call) → (f h c).refusal ≢ 0

abbrev pub AnswersZeros : Program → Type 0
AnswersZeros f = (h : List Call) (c : Call) → ((f h c).refusal ≡ 0) × ((f h c).value ≡ 0)

abbrev pub WritesNothing : Program → Type 0
WritesNothing f = (h : List Call) (c : Call) → (f h c).words ≡ c.words

-- the nodes that a program turns Free in a call
abbrev pub turned : Program → List Call → Call → ℕ
turned f h c = turned_free (decode c.words) (decode (f h c).words)

-- a manage that was to free a node is among the calls
abbrev pub freed_before : List Call → Bool
freed_before [] = false
freed_before (c ∷ cs) = (eqb c.step.kind 12 && ltb 0 (right c).value) || freed_before cs

-- after such a manage no manage turns a node Free, whatever it answers
abbrev pub FreesOnce : Program → Type 0
FreesOnce f = (h : List Call) (c : Call) → freed_before h ≡ true → c.step.kind ≡ 12 → turned f h c ≡ 0

-- the one that says so: all its answers are right, and its words too but for those of a manage after such a manage
abbrev pub only_says : Program
only_says h c =
    cond (freed_before h && eqb c.step.kind 12)
    (record { refusal = (right c).refusal; value = (right c).value; words = c.words })
    (right c)

-- a retire or a manage answers another number than that: 0 always, or one more where it is accepted
abbrev pub Miscounts : Program → List Call → Call → Type 0
Miscounts f h c = freed_count c.step (outcome_of (f h c)) ≢ turned f h c

abbrev pub CountsNone : Program → Type 0
CountsNone f = (h : List Call) (c : Call) → reports_freed c.step.kind ≡ true → (f h c).value ≡ 0

abbrev pub CountsOneMore : Program → Type 0
CountsOneMore f =
    (h : List Call) (c : Call) → reports_freed c.step.kind ≡ true → (f h c).refusal ≡ 0 → (f h c).value ≡ suc (turned f h c)

-- no process has a pending store
abbrev pub NoStores : Domain → Type 0
NoStores d = every (λ x. eqb (length x.buffer) 0) d.processes ≡ true

-- with no store pending, a step is refused with n: some step, or every step of kind k
abbrev pub Reports : ℕ → Program → List Call → Call → Type 0
Reports n f h c = NoStores (decode c.words) × ((f h c).refusal ≡ n)

abbrev pub ReportsEach : ℕ → ℕ → Program → Type 0
ReportsEach n k f = (h : List Call) (c : Call) → NoStores (decode c.words) → c.step.kind ≡ k → (f h c).refusal ≡ n

-- ---- schedules

abbrev pub least : Params
least = params 1 1 1 1 1 1

-- a node of guest 70 in a validated hazard
abbrev pub guarded : List Step
guarded = allocate 0 0 70 ∷ publish 0 0 ∷ protect 0 0 0 ∷ check 0 0 ∷ []

-- a node that the next manage frees, the sixth since it was retired; and the same again after that
abbrev pub sixth : Params
sixth = params 1 1 1 3 1 2

abbrev pub once : List Step
once = turnover 0 0 70 ++ replicate 5 (manage 0)

abbrev pub twice : List Step
twice = once ++ manage 0 ∷ [] ++ turnover 0 0 80 ++ replicate 5 (manage 0)

-- ---- demand 2 shuts out

pub record Excluded : Type 0 where
  -- a desk that refuses each step
  pub refuses-each : WrongAfter least [] tick RefusesEach
  -- one that answers 0 and 0 to all: a use answers the guest, and a step of the kind after the last is refused
  pub answers-zeros : WrongAfter least guarded (use' 0 0) AnswersZeros × WrongAfter least [] (step_of (suc kind_count) 0 0 0 0) AnswersZeros
  -- one that writes nothing
  pub writes_nothing : WrongAfter least [] tick WritesNothing
  -- one that frees at its first acting manage and later only says so
  pub frees-once : FreesOnce only_says × WrongAfter sixth twice (manage 0) FreesOnce
  -- one whose freed count isn't the cards turned Free in that step
  pub miscounts :
      WrongWhere Miscounts
      × WrongAfter sixth once (manage 0) CountsNone
      × WrongAfter sixth once (manage 0) CountsOneMore
  -- one that reports full mail or a due rooster with empty mail
  pub reports-stores :
      WrongWhere (Reports 13)
      × WrongWhere (Reports 16)
      × WrongAfter least [] (protect 0 0 0) (ReportsEach 13 3)
      × WrongAfter least [] tick (ReportsEach 16 11)
