-- Freed within seven rounds: what a round is, and the claim that is made of whatever takes steps, the rules or the calls on words.
-- The theorems of these types stand in proofs/Theorems.antt. Assumes nothing.
use Rattle.std.specs.Prelude.{ℕ, ◌≤◌, Bool, true, not, ◌&&◌, ◌||◌, List, [], ◌∷◌, ◌≡◌, length, leb, eqb}
use Rattle.lists.specs.Tests.{every, implies, count}
use Rattle.lists.specs.Upto.{all_upto}
use Rattle.model.specs.Params.{Params, InRange}
use Rattle.model.specs.State.{Domain, Step, Free, Retired, Fast, node_of, process_of, is_present}
use Rattle.model.specs.Machine.{Outcome, step, run, fresh}

-- ---- A run in stretches

-- what takes steps: the domain that a state of it holds, the refusal number of a step, and the state after it
pub record Runner (W : Type 0) : Type 0 where
  pub holds : W → Domain
  pub refusal : W → Step → ℕ
  pub after : W → Step → W

-- a machine on domains
abbrev pub machine : (Domain → Step → Outcome) → Runner Domain
machine f = record { holds = λ d. d; refusal = λ d s. (f d s).refusal; after = λ d s. (f d s).after }

-- a step that was taken, refused or not
pub record Transition : Type 0 where
  pub before : Domain
  pub step : Step
  pub refusal : ℕ
  pub after : Domain

abbrev pub transitions : {W : Type 0} → Runner W → W → List Step → List Transition
transitions r w [] = []
transitions r w (s ∷ ss) =
    record { before = r.holds w; step = s; refusal = r.refusal w s; after = r.holds (r.after w s) }
    ∷ transitions r (r.after w s) ss

-- the state after a list of steps
abbrev pub ended : {W : Type 0} → Runner W → W → List Step → W
ended r w [] = w
ended r w (s ∷ ss) = ended r (r.after w s) ss

-- where a stretch of a run begins, and its steps
pub record Stretch : Type 0 where
  pub start : Domain
  pub transitions : List Transition

-- one after another
abbrev pub stretches : {W : Type 0} → Runner W → W → List (List Step) → List Stretch
stretches r w [] = []
stretches r w (ss ∷ rest) =
    record { start = r.holds w; transitions = transitions r w ss } ∷ stretches r (ended r w ss) rest

-- ---- Rounds

-- an accepted manage (12) of process p
abbrev pub manages : ℕ → Transition → Bool
manages p t = eqb t.refusal 0 && (eqb t.step.kind 12 && eqb t.step.process p)

-- an accepted leave (15) of process p
abbrev pub leaves : ℕ → Transition → Bool
leaves p t = eqb t.refusal 0 && (eqb t.step.kind 15 && eqb t.step.process p)

-- process p is present where the stretch begins, and stays
abbrev pub is_present_in : Stretch → ℕ → Bool
is_present_in x p = is_present (process_of x.start p) && every (λ t. not (leaves p t)) x.transitions

-- each process that is present in it has at least Q accepted manages in it
abbrev pub is_round : Stretch → Bool
is_round x =
    all_upto
    (λ p. implies (is_present_in x p) (leb x.start.params.quiescence_threshold (count (manages p) x.transitions)))
    x.start.params.processes

-- the path is fast before the step and after it
abbrev pub is_fast : Transition → Bool
is_fast t = eqb t.before.path Fast && eqb t.after.path Fast

-- an accepted leave (15) or join (16)
abbrev pub comes_or_goes : Transition → Bool
comes_or_goes t = eqb t.refusal 0 && (eqb t.step.kind 15 || eqb t.step.kind 16)

-- an accepted leave of the owner of node c
abbrev pub owner_leaves : ℕ → Transition → Bool
owner_leaves c t = leaves (node_of t.before c).owner t

-- every step of the stretches passes; none does
abbrev pub always : (Transition → Bool) → List Stretch → Bool
always f xs = every (λ x. every f x.transitions) xs

abbrev pub never : (Transition → Bool) → List Stretch → Bool
never f xs = always (λ t. not (f t)) xs

-- it turns node c Free
abbrev pub turns_free : ℕ → Transition → Bool
turns_free c t = not (eqb (node_of t.before c).state Free) && eqb (node_of t.after c).state Free

-- some step of the stretches did; the node may have been taken again since
abbrev pub is_freed : ℕ → List Stretch → Bool
is_freed c xs = not (never (turns_free c) xs)

-- ---- The claim

-- of a state w: in n rounds in a row, of any steps, on the fast path and without what is barred for a node, each one that is Retired at their
-- start is freed
abbrev pub FreedInRounds : {W : Type 0} → Runner W → (ℕ → Transition → Bool) → ℕ → W → Type 0
FreedInRounds r barred n w =
    (rounds : List (List Step)) (c : ℕ) → length rounds ≡ n
    → every is_round (stretches r w rounds) ≡ true
    → always is_fast (stretches r w rounds) ≡ true
    → never (barred c) (stretches r w rounds) ≡ true
    → (node_of (r.holds w) c).state ≡ Retired
    → is_freed c (stretches r w rounds) ≡ true

-- of every domain that is reached: seven, if nobody joins or leaves
abbrev pub SevenRounds : Type 0
SevenRounds = (a : Params) (ss : List Step) → InRange a → FreedInRounds (machine step) (λ _. comes_or_goes) 7 (run (fresh a) ss)

-- more than the paper asks: it is enough that the node's owner does not leave; others may, and join
abbrev pub SevenRoundsOfOwner : Type 0
SevenRoundsOfOwner = (a : Params) (ss : List Step) → InRange a → FreedInRounds (machine step) owner_leaves 7 (run (fresh a) ss)

-- and six are enough where no more than one process is present, as where N = 1
abbrev pub SixRounds : Type 0
SixRounds =
    (a : Params) (ss : List Step) → InRange a → count is_present (run (fresh a) ss).processes ≤ 1
    → FreedInRounds (machine step) owner_leaves 6 (run (fresh a) ss)
