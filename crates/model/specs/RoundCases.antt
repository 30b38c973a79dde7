-- Closed runs in rounds, each with what is expected of it written by hand: seven is right, each premise is needed, others than the
-- owner may come and go, and wrong rules by which nodes are freed too late or never. Assumes nothing.
use Rattle.std.specs.Prelude.{ℕ, Bool, true, false, List, [], ◌∷◌, ◌++◌, map, ◌≡◌, replicate}
use Rattle.lists.specs.Tests.{every}
use Rattle.model.specs.Params.{Params}
use Rattle.model.specs.State.{Domain, Step, Free, Allocated, Retired, node_of}
use Rattle.model.specs.Machine.{Outcome, step, run, fresh}
use Rattle.model.specs.Rounds.{machine, ended, Stretch, stretches, is_round, is_fast, comes_or_goes, owner_leaves}
use Rattle.model.specs.Rounds.{always, never, is_freed, FreedInRounds}
use Rattle.model.specs.Cases.{allocate, manage, clear_presence, leave, join, turnover, params}
use Rattle.model.specs.Mistakes.{advance_waits, counts_past_q}

-- whether each is a round, the path stays fast, nobody joins or leaves, the owner of node 0 does not leave; whether the node is freed in them,
-- and its state at their end
pub record Told : Type 0 where
  pub rounds : Bool
  pub fast : Bool
  pub nobody : Bool
  pub owner : Bool
  pub freed : Bool
  pub state : ℕ

-- a machine, parameters, steps from a fresh domain that leave node 0 Retired, and rounds after them
pub record RoundCase : Type 0 where
  pub by : Domain → Step → Outcome
  pub params : Params
  pub before : List Step
  pub rounds : List (List Step)
  pub told : Told

abbrev pub start_of : RoundCase → Domain
start_of x = ended (machine x.by) (fresh x.params) x.before

abbrev pub joined : List (List Step) → List Step
joined [] = []
joined (r ∷ rs) = r ++ joined rs

abbrev pub tells_of : List Stretch → ℕ → Told
tells_of xs n =
    record {
      rounds = every is_round xs;
      fast = always is_fast xs;
      nobody = never comes_or_goes xs;
      owner = never (owner_leaves 0) xs;
      freed = is_freed 0 xs;
      state = n;
    }

pub record HoldsInRounds (x : RoundCase) : Type 0 where
  pub retired : (node_of (start_of x) 0).state ≡ Retired
  pub told : tells_of (stretches (machine x.by) (start_of x) x.rounds)
      (node_of (ended (machine x.by) (start_of x) (joined x.rounds)) 0).state ≡ x.told

-- ---- what is told

-- all premises, and freed, with its state at the end; and still waiting
abbrev pub freed_as : ℕ → Told
freed_as n = record { rounds = true; fast = true; nobody = true; owner = true; freed = true; state = n }

-- though somebody joins or leaves
abbrev pub freed_all_the_same : Told
freed_all_the_same = record { rounds = true; fast = true; nobody = false; owner = true; freed = true; state = Free }

abbrev pub waiting : Told
waiting = record { rounds = true; fast = true; nobody = true; owner = true; freed = false; state = Retired }

-- rounds, or the path, or the owner not as it is asked
abbrev pub waiting_unless : Bool → Bool → Bool → Told
waiting_unless r f o = record { rounds = r; fast = f; nobody = o; owner = o; freed = false; state = Retired }

-- ---- rounds

abbrev pub both : ℕ → ℕ → List Step
both p q = manage p ∷ manage q ∷ []

-- process 0 is at epoch 1, process 1 still at 0, and node 0 is retired on list 1
abbrev pub apart : List Step
apart = manage 0 ∷ manage 0 ∷ turnover 0 0 70

-- six that go on as little as they may: in the first, third and fifth process 0 acts before process 1 has come to the epoch, in the second and
-- fourth process 1 goes on and leaves itself behind, in the last process 0 goes on and comes no further
abbrev pub slow : List (List Step)
slow = both 0 1 ∷ both 1 0 ∷ both 0 1 ∷ both 1 0 ∷ both 0 1 ∷ both 0 1 ∷ []

-- by machine f, and by the rules
abbrev pub rounds_by : (Domain → Step → Outcome) → Params → List Step → List (List Step) → Told → RoundCase
rounds_by f a ss rs t = record { by = f; params = a; before = ss; rounds = rs; told = t }

abbrev pub in_rounds : Params → List Step → List (List Step) → Told → RoundCase
in_rounds = rounds_by step

-- N = 1 and N = 2; Q = 1, and C is not reached
abbrev pub one : Params
one = params 1 1 1 1 1 2

abbrev pub two : Params
two = params 2 1 1 1 1 2

abbrev pub round_cases : List RoundCase
round_cases =
    -- seven is right: with two processes six rounds leave the node Retired, and the seventh frees it
    in_rounds two apart slow waiting
    ∷ in_rounds two apart (slow ++ both 0 1 ∷ []) (freed_as Free)
    -- it may have been taken again since
    ∷ in_rounds two apart (slow ++ (manage 0 ∷ allocate 0 0 80 ∷ manage 1 ∷ []) ∷ []) (freed_as Allocated)
    -- with one process five leave it, and the sixth frees it
    ∷ in_rounds one (turnover 0 0 70) (replicate 5 (manage 0 ∷ [])) waiting
    ∷ in_rounds one (turnover 0 0 70) (replicate 6 (manage 0 ∷ [])) (freed_as Free)
    -- and so with two of which one is absent
    ∷ in_rounds two (leave 1 0 ∷ turnover 0 0 70) (replicate 5 (manage 0 ∷ [])) waiting
    ∷ in_rounds two (leave 1 0 ∷ turnover 0 0 70) (replicate 6 (manage 0 ∷ [])) (freed_as Free)
    -- the path must stay fast: C = 1, so the retire leaves it, and presence is cleared after each manage
    ∷ in_rounds (params 2 1 1 1 1 1) (turnover 0 0 70) (replicate 7 (manage 0 ∷ clear_presence ∷ manage 1 ∷ clear_presence ∷ []))
    (waiting_unless true false true)
    -- the owner may not leave: in the third round it does, and the node is as if retired then
    ∷ in_rounds two apart (both 0 1 ∷ both 1 0 ∷ (manage 0 ∷ manage 1 ∷ leave 0 1 ∷ []) ∷ replicate 4 (manage 1 ∷ []))
    (waiting_unless true true false)
    -- at least Q: it is 2, process 0 has two manages a round and process 1 has one
    ∷ in_rounds (params 2 1 1 1 2 2) (replicate 4 (manage 0) ++ turnover 0 0 70) (replicate 7 (manage 0 ∷ manage 0 ∷ manage 1 ∷ []))
    (waiting_unless false true true)
    -- others may join: process 1 does in the second round
    ∷ in_rounds two (leave 1 0 ∷ turnover 0 0 70) ((manage 0 ∷ []) ∷ (manage 0 ∷ join 1 ∷ []) ∷ replicate 5 (both 0 1)) freed_all_the_same
    -- and leave: process 1 does in the third, without its manage, and is back in the fifth
    ∷ in_rounds two apart
    (both 0 1 ∷ both 1 0 ∷ (manage 0 ∷ leave 1 0 ∷ []) ∷ (manage 0 ∷ []) ∷ (join 1 ∷ manage 0 ∷ []) ∷ both 0 1 ∷ both 1 0 ∷ [])
    freed_all_the_same
    -- refused steps may stand anywhere: there is no node 1 and no process 2, and nobody takes over from himself
    ∷ in_rounds two apart (map (λ r. allocate 0 1 70 ∷ manage 2 ∷ r ++ leave 0 0 ∷ []) (slow ++ both 0 1 ∷ [])) (freed_as Free)
    -- wrong rules: the advance waits for one epoch more; a manage counts to Q + 1; and the rules themselves
    ∷ rounds_by advance_waits two (turnover 0 0 70) (replicate 7 (both 0 1)) waiting
    ∷ rounds_by counts_past_q two (turnover 0 0 70) (replicate 7 (both 0 1)) waiting
    ∷ in_rounds two (turnover 0 0 70) (replicate 7 (both 0 1)) (freed_as Free)
    ∷ []

-- ---- so the claim with fewer rounds is false, and so it is of those two wrong rules

pub record TooFew : Type 0 where
  pub six : FreedInRounds (machine step) (λ _. comes_or_goes) 6 (run (fresh two) apart) → ⊥
  pub five_alone : FreedInRounds (machine step) (λ _. comes_or_goes) 5 (run (fresh one) (turnover 0 0 70)) → ⊥
  pub advance_waits' : FreedInRounds (machine advance_waits) (λ _. comes_or_goes) 7 (run (fresh two) (turnover 0 0 70)) → ⊥
  pub counts_past_q' : FreedInRounds (machine counts_past_q) (λ _. comes_or_goes) 7 (run (fresh two) (turnover 0 0 70)) → ⊥
