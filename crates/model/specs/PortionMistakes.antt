-- Nine plausible mistakes in what a portion says of itself: each as a call that is wrong in one of its numbers. The step is right in all of them, so no
-- schedule tells them apart; the numbers of a call do. Both are written by hand. Assumes nothing.
use Rattle.std.specs.Prelude.{ℕ, ◌-◌, cond, List, [], ◌∷◌, ◌≡◌, ◌≢◌, eqb}
use Rattle.lists.specs.Tests.{count}
use Rattle.model.specs.State.{Domain, Retired}
use Rattle.model.specs.Kinds.{Portion}
use Rattle.model.specs.Retire.{retired_by}
use Rattle.model.specs.Portion.{Scanned, nodes_from, nodes_between, portion}
use Rattle.model.specs.Questions.{refusal_of}
use Rattle.model.specs.Machine.{PortionAnswer, portion_step, portioned, taken, declined}
use Rattle.model.specs.Claims.{step_of_portion}
use Rattle.model.specs.Cases.{Numbers, numbers_of, tells, declines, crowded}

-- ---- calls that are right but for one number

-- told as f tells it where it is accepted, and as g says where it is refused
abbrev pub telling_by : (Domain → ℕ → ℕ → ℕ → Scanned) → (ℕ → Domain → ℕ → PortionAnswer) → Domain → ℕ → ℕ → ℕ → PortionAnswer
telling_by f g d p a l =
    cond (eqb (refusal_of Portion d (portion_step p a l)) 0) (taken (f d p a l)) (g (refusal_of Portion d (portion_step p a l)) d a)

abbrev pub telling : (Domain → ℕ → ℕ → ℕ → Scanned) → Domain → ℕ → ℕ → ℕ → PortionAnswer
telling f = telling_by f (λ n d a. declined n d)

-- examined, next or left put in for what a portion says
abbrev pub with_examined : Scanned → ℕ → Scanned
with_examined x n = record { freed = x.freed; examined = n; next = x.next; left = x.left; after = x.after }

abbrev pub with_next : Scanned → ℕ → Scanned
with_next x n = record { freed = x.freed; examined = x.examined; next = n; left = x.left; after = x.after }

abbrev pub with_left : Scanned → ℕ → Scanned
with_left x n = record { freed = x.freed; examined = x.examined; next = x.next; left = n; after = x.after }

-- ---- nine mistakes

-- only the freed ones count as examined
abbrev pub examined_freed : Domain → ℕ → ℕ → ℕ → PortionAnswer
examined_freed = telling (λ d p a l. with_examined (portion d p a l) (portion d p a l).freed)

-- they are counted after the step, when only those that were kept are Retired
abbrev pub examined_after : Domain → ℕ → ℕ → ℕ → PortionAnswer
examined_after =
    telling (λ d p a l. with_examined (portion d p a l) (count (retired_by p) (nodes_between (portion d p a l).after a (portion d p a l).next)))

-- every node looked at counts
abbrev pub examined_all : Domain → ℕ → ℕ → ℕ → PortionAnswer
examined_all = telling (λ d p a l. with_examined (portion d p a l) ((portion d p a l).next - a))

-- Retired nodes of other processes count too
abbrev pub examined_others : Domain → ℕ → ℕ → ℕ → PortionAnswer
examined_others =
    telling (λ d p a l. with_examined (portion d p a l) (count (λ n. eqb n.state Retired) (nodes_between d a (portion d p a l).next)))

-- the node to go on from is the l-th itself
abbrev pub next_is_last : Domain → ℕ → ℕ → ℕ → PortionAnswer
next_is_last =
    telling (λ d p a l. with_next (portion d p a l) (cond (eqb (portion d p a l).examined l) ((portion d p a l).next - 1) (portion d p a l).next))

-- it is M where nothing is left
abbrev pub next_at_end : Domain → ℕ → ℕ → ℕ → PortionAnswer
next_at_end = telling (λ d p a l. with_next (portion d p a l) (cond (eqb (portion d p a l).left 0) d.params.nodes (portion d p a l).next))

-- what is left counts from the start on
abbrev pub left_from_start : Domain → ℕ → ℕ → ℕ → PortionAnswer
left_from_start = telling (λ d p a l. with_left (portion d p a l) (count (retired_by p) (nodes_from d a)))

-- Retired nodes of other processes are left too
abbrev pub left_of_others : Domain → ℕ → ℕ → ℕ → PortionAnswer
left_of_others = telling (λ d p a l. with_left (portion d p a l) (count (λ n. eqb n.state Retired) (nodes_from d (portion d p a l).next)))

-- a refused one says to go on from where it was to start
abbrev pub refused_goes_on : Domain → ℕ → ℕ → ℕ → PortionAnswer
refused_goes_on = telling_by portion (λ n d a. record { refusal = n; freed = 0; examined = 0; next = a; left = 0; after = d })

-- ---- a call that tells each from the rules

pub record PortionMistake : Type 0 where
  pub call : Domain → ℕ → ℕ → ℕ → PortionAnswer
  pub process : ℕ
  pub start : ℕ
  pub limit : ℕ
  -- the numbers of the rules, and those of the call
  pub right : Numbers
  pub wrong : Numbers

-- of `crowded`: process, start, limit
abbrev pub portion_mistake : (Domain → ℕ → ℕ → ℕ → PortionAnswer) → ℕ → ℕ → ℕ → Numbers → Numbers → PortionMistake
portion_mistake f p a l r w = record { call = f; process = p; start = a; limit = l; right = r; wrong = w }

abbrev pub portion_mistakes : List PortionMistake
portion_mistakes =
    -- of nodes 0 and 2 one is kept
    portion_mistake examined_freed 0 0 2 (tells 1 2 3 3) (tells 1 1 3 3)
    -- of nodes 2, 4 and 5 one is freed
    ∷ portion_mistake examined_after 0 1 3 (tells 1 3 6 1) (tells 1 2 6 1)
    -- node 1 is not Retired
    ∷ portion_mistake examined_all 0 0 2 (tells 1 2 3 3) (tells 1 3 3 3)
    -- node 3 is process 1's
    ∷ portion_mistake examined_others 0 3 1 (tells 0 1 5 2) (tells 0 2 5 2)
    -- the second is node 2
    ∷ portion_mistake next_is_last 0 0 2 (tells 1 2 3 3) (tells 1 2 2 3)
    -- process 1 has node 3 alone
    ∷ portion_mistake next_at_end 1 0 1 (tells 1 1 4 0) (tells 1 1 7 0)
    -- five in all
    ∷ portion_mistake left_from_start 0 0 2 (tells 1 2 3 3) (tells 1 2 3 5)
    -- node 3 again
    ∷ portion_mistake left_of_others 0 0 2 (tells 1 2 3 3) (tells 1 2 3 4)
    -- refused with 23, from node 3
    ∷ portion_mistake refused_goes_on 0 3 0 (declines 23) (record { refusal = 23; freed = 0; examined = 0; next = 3; left = 0 })
    ∷ []

-- what a call answers
abbrev pub answer_by : (Domain → ℕ → ℕ → ℕ → PortionAnswer) → PortionMistake → PortionAnswer
answer_by f m = f crowded m.process m.start m.limit

-- the rules and the call tell the numbers that were foretold, and not the same; as a step they are one
abbrev pub ToldByNumbers : PortionMistake → Type 0
ToldByNumbers m =
    (numbers_of (answer_by portioned m) ≡ m.right) × (numbers_of (answer_by m.call m) ≡ m.wrong) × (m.right ≢ m.wrong)
    × (step_of_portion (answer_by m.call m) ≡ step_of_portion (answer_by portioned m))
