-- The questions before a step, numbers 4 to 17 and 20 to 23 in the papers' order; ranges and states are decided by the table. Assumes nothing.
use Rattle.std.specs.Prelude.{ℕ, Bool, not, ◌||◌, cond, List, [], ◌∷◌, length, ltb, eqb}
use Rattle.lists.specs.Tests.{every, implies}
use Rattle.model.specs.Params.{buffer_size, last_clock}
use Rattle.model.specs.State.{Domain, Step, Reachable, node_of}
use Rattle.model.specs.Kinds.{Kind, is, means, meets, row_of, ProcessId, HazardId, NodeId, Limit, Protect}
use Rattle.model.specs.Kinds.{Check, Use, Clear, Drain, Tick, Manage, Leave, Join, Unknown}
use Rattle.model.specs.Hazards.{here, pointer, target, young, unassigned}
use Rattle.model.specs.Leave.{unburdened, takes_over}
use Rattle.model.specs.Portion.{limit_in_range}

-- a question by its number, and whether its answer is yes
pub record Question : Type 0 where
  pub number : ℕ
  pub yes' : Bool

abbrev pub ask : ℕ → Bool → Question
ask n b = record { number = n; yes' = b }

-- the number of the first question with the answer no; 0 where there is none
abbrev pub first_no : List Question → ℕ
first_no [] = 0
first_no (q ∷ qs) = cond q.yes' (first_no qs) q.number

-- what the word `present` of its process must be to a kind: a process that is present does not join, and an absent one does nothing else
abbrev pub present_for : Kind → ℕ
present_for k = cond (is k Join) 0 1

-- 7, which is asked before a step and when a call asks of a node
abbrev pub node_in_range : Domain → ℕ → Bool
node_in_range d c = ltb c d.params.nodes

abbrev pub questions : Kind → Domain → Step → List Question
questions k d s =
    ask 4 (not (is k Unknown))
    ∷ ask 5 (implies (means (row_of k).process ProcessId) (ltb s.process d.params.processes))
    ∷ ask 20 (implies (means (row_of k).process ProcessId) (eqb (here d s).present (present_for k)))
    ∷ ask 21 (implies (is k Leave) (unburdened d s.process))
    ∷ ask 22 (implies (is k Leave) (takes_over d s.process s.node))
    ∷ ask 6 (implies (means (row_of k).hazard HazardId) (ltb s.hazard d.params.hazards))
    ∷ ask 7 (implies (means (row_of k).node NodeId) (node_in_range d s.node))
    ∷ ask 23 (implies (means (row_of k).guest Limit) (limit_in_range s.guest))
    ∷ ask 8 (meets (row_of k).needs (node_of d s.node).state)
    ∷ ask 9 (implies (row_of k).owns (eqb (node_of d s.node).owner s.process))
    ∷ ask 10 (implies (is k Check) (not (eqb (pointer d s).assigned 0)))
    ∷ ask 11 (implies (is k Check) (eqb (target d s).state Reachable))
    ∷ ask 12 (implies (is k Use) (eqb (pointer d s).validated 1))
    ∷ ask 13 (implies (is k Protect || is k Clear) (ltb (length (here d s).buffer) buffer_size))
    ∷ ask 14 (implies (is k Drain) (not (eqb (length (here d s).buffer) 0)))
    ∷ ask 15 (implies (is k Tick) (ltb d.clock last_clock))
    ∷ ask 16 (implies (is k Tick) (every (young d) d.processes))
    ∷ ask 17 (implies (is k Manage) (unassigned (here d s)))
    ∷ []

abbrev pub refusal_of : Kind → Domain → Step → ℕ
refusal_of k d s = first_no (questions k d s)
