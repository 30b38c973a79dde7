-- A closed schedule for each of the forty-three mistakes, on which it answers otherwise than the rules or leaves another number in the domain. Both
-- lists are written by hand. Assumes nothing.
use Rattle.std.specs.Prelude.{ℕ, List, [], ◌∷◌, ◌++◌, map, ◌≡◌, ◌≢◌, replicate}
use Rattle.model.specs.Params.{Params, params_of}
use Rattle.model.specs.State.{Domain, Step, node_of}
use Rattle.model.specs.Machine.{Outcome, step, fresh}
use Rattle.model.specs.Claims.{reachable_count}
use Rattle.model.specs.Rounds.{machine, ended}
use Rattle.model.specs.Cases.{Answer, gives, refuses, oks, answers_by, allocate, publish, protect, check}
use Rattle.model.specs.Cases.{use', clear, remove, retire, flush, tick, manage, reinsert, leave, join, portion}
use Rattle.model.specs.Cases.{turnover, shown_to_all, stop_and_back, params, stray}
use Rattle.model.specs.Mistakes.{frees_at_age_t, no_store_on_fast_path, frees_two_epochs_on, scans_current_list_only}
use Rattle.model.specs.Mistakes.{keeps_presence, no_visible_test, tick_one_late, no_question17, checks_removed, over_c}
use Rattle.model.specs.Mistakes.{own_unknown, own_first, own_assigned, others_known, own_visible_too}
use Rattle.model.specs.Mistakes.{reinsert_keeps_owner, reinsert_by_anyone, reinsert_takes_retired, reinsert_loses_guest}
use Rattle.model.specs.Mistakes.{reinsert_not_raised, leave_keeps_stamp, leave_keeps_limbo, leaves_nodes_behind}
use Rattle.model.specs.Mistakes.{waits_for_epoch, waits_for_presence, absent_acts, join_keeps_epoch, scan_not_late}
use Rattle.model.specs.Mistakes.{tick_not_late, late_twice, portion_frees_young, portion_unseen, portion_own_unknown}
use Rattle.model.specs.Mistakes.{portion_takes_others, portion_of_nodes, portion_unlimited, portion_from_zero}
use Rattle.model.specs.Mistakes.{portion_of_none}
use Rattle.model.specs.Mistakes.{portion_of_more, portion_past_last, advance_waits, frees_list_before, counts_past_q}

pub record Mistake : Type 0 where
  pub machine : Domain → Step → Outcome
  pub start : Domain
  pub steps : List Step
  -- what is read off the domain afterwards, where the answers do not tell
  pub looks : Domain → List ℕ
  -- the answers of the rules and what is then read, and those of the machine
  pub right : List Answer
  pub wrong : List Answer

abbrev pub mistake_from : Domain → (Domain → Step → Outcome) → List Step → List Answer → List Answer → Mistake
mistake_from d f ss r w = record { machine = f; start = d; steps = ss; looks = λ _. []; right = r; wrong = w }

-- from a fresh domain
abbrev pub mistake : (Domain → Step → Outcome) → Params → List Step → List Answer → List Answer → Mistake
mistake f a ss r w = mistake_from (fresh a) f ss r w

-- and with a number read off the domain afterwards
abbrev pub mistake_left : (Domain → Step → Outcome) → Params → List Step → (Domain → ℕ) → List Answer → List Answer → Mistake
mistake_left f a ss look r w = record { machine = f; start = fresh a; steps = ss; looks = λ d. look d ∷ []; right = r; wrong = w }

-- process 1 has validated node 0, of guest 70, and process 0 retires it (6 steps)
abbrev pub claimed : List Step
claimed = allocate 0 0 70 ∷ publish 0 0 ∷ protect 1 0 0 ∷ check 1 0 ∷ remove 0 0 ∷ retire 0 0 ∷ []

-- node 0 to guest 80, and process 1 uses what it has validated: the answers where node 0 was kept, and where it was freed
abbrev pub reused : List Step
reused = allocate 0 0 80 ∷ publish 0 0 ∷ use' 1 0 ∷ []

abbrev pub kept : List Answer
kept = refuses 8 ∷ refuses 8 ∷ gives 70 ∷ []

abbrev pub freed : List Answer
freed = gives 0 ∷ gives 0 ∷ gives 80 ∷ []

-- processes 0 and 1 move on by one epoch
abbrev pub round : List Step
round = manage 0 ∷ manage 0 ∷ manage 1 ∷ []

-- a schedule that ends with reused shows harm: the node is freed under process 1, and its use gives 80 for 70
abbrev pub mistakes : List Mistake
mistakes =
    -- at clock 1 the store of process 1 is not visible yet, and node 0 is 1 old
    mistake frees_at_age_t (params 2 1 2 1 1 1) (claimed ++ tick ∷ [] ++ turnover 0 1 60 ++ reused)
    (oks 11 ++ kept) (oks 10 ++ gives 1 ∷ [] ++ freed)
    -- the flush has nothing to make visible
    ∷ mistake no_store_on_fast_path (params 2 1 2 1 1 1) (claimed ++ flush 1 ∷ tick ∷ tick ∷ [] ++ turnover 0 1 60 ++ reused)
    (oks 13 ++ kept) (oks 12 ++ gives 1 ∷ [] ++ freed)
    -- process 1 is one epoch ahead of process 0 when it validates
    ∷ mistake frees_two_epochs_on (params 2 1 1 1 1 2)
    (manage 1 ∷ manage 1 ∷ claimed ++ manage 0 ∷ manage 0 ∷ manage 0 ∷ [] ++ reused)
    (oks 11 ++ kept) (oks 10 ++ gives 1 ∷ [] ++ freed)
    -- node 0 is in list 0, and the local epoch is 1 at the scan
    ∷ mistake scans_current_list_only (params 1 1 2 1 1 2)
    (turnover 0 0 70 ++ manage 0 ∷ manage 0 ∷ tick ∷ tick ∷ [] ++ turnover 0 1 60)
    (oks 11 ++ gives 1 ∷ []) (oks 12)
    -- the last manage takes process 1 for present, and so comes to the quiescent state that frees list 0
    ∷ mistake keeps_presence (params 2 1 2 1 1 2)
    (turnover 0 0 70 ++ round ++ round ++ manage 0 ∷ [] ++ turnover 0 1 60 ++ manage 0 ∷ [])
    (oks 16) (oks 15 ++ gives 1 ∷ [])
    -- the store of process 1 is visible
    ∷ mistake no_visible_test (params 2 1 2 1 1 1) (claimed ++ flush 1 ∷ tick ∷ tick ∷ [] ++ turnover 0 1 60 ++ reused)
    (oks 13 ++ kept) (oks 12 ++ gives 1 ∷ [] ++ freed)
    -- at clock 2 the store of process 1 is not visible yet, and node 0 is 2 old
    ∷ mistake tick_one_late (params 2 1 2 1 1 1) (claimed ++ tick ∷ tick ∷ [] ++ turnover 0 1 60 ++ reused)
    (oks 7 ++ refuses 16 ∷ [] ++ oks 4 ++ kept) (oks 11 ++ gives 1 ∷ [] ++ freed)
    -- process 1 goes from epoch to epoch with node 0 validated
    ∷ mistake no_question17 (params 2 1 1 1 1 2) (claimed ++ round ++ round ++ manage 0 ∷ manage 0 ∷ [] ++ reused)
    (oks 8 ++ refuses 17 ∷ [] ++ oks 2 ++ refuses 17 ∷ [] ++ oks 2 ++ kept) (oks 13 ++ gives 1 ∷ [] ++ freed)
    -- process 1 uses a node that was removed before it checked
    ∷ mistake checks_removed (params 2 1 1 1 1 1)
    (allocate 0 0 70 ∷ publish 0 0 ∷ protect 1 0 0 ∷ remove 0 0 ∷ check 1 0 ∷ use' 1 0 ∷ [])
    (oks 4 ++ refuses 11 ∷ refuses 12 ∷ []) (oks 5 ++ gives 70 ∷ [])
    -- the second retire makes 2 of 2, and node 0 is 2 old
    ∷ mistake over_c (params 1 1 2 1 1 2) (turnover 0 0 70 ++ tick ∷ tick ∷ [] ++ turnover 0 1 60)
    (oks 9 ++ gives 1 ∷ []) (oks 10)
    -- process 0 has cleared its hazard, which still shows node 0 to others
    ∷ mistake own_unknown (params 1 1 2 1 1 1) (shown_to_all 0 ++ clear 0 0 ∷ [] ++ turnover 0 1 60)
    (oks 12 ++ gives 1 ∷ []) (oks 13)
    -- of node 0 and then none, the first still counts
    ∷ mistake own_first (params 1 1 2 1 1 1) (turnover 0 0 70 ++ tick ∷ tick ∷ protect 0 0 0 ∷ clear 0 0 ∷ [] ++ turnover 0 1 60)
    (oks 11 ++ gives 1 ∷ []) (oks 12)
    -- node 0 is stored and node 1 assigned, both aged
    ∷ mistake_from stray own_assigned (turnover 0 2 60 ++ allocate 0 0 80 ∷ [])
    (oks 3 ++ gives 1 ∷ refuses 8 ∷ []) (oks 3 ++ gives 1 ∷ gives 0 ∷ [])
    -- process 1 has cleared its hazard, which still shows node 0 to process 0
    ∷ mistake others_known (params 2 1 2 1 1 1) (shown_to_all 1 ++ clear 1 0 ∷ [] ++ turnover 0 1 60)
    (oks 13) (oks 12 ++ gives 1 ∷ [])
    -- as for the first of the five
    ∷ mistake own_visible_too (params 1 1 2 1 1 1) (shown_to_all 0 ++ clear 0 0 ∷ [] ++ turnover 0 1 60)
    (oks 12 ++ gives 1 ∷ []) (oks 13)
    -- no question asks for the owner of a Reachable node: it is 1 where it should be 0
    ∷ mistake_left reinsert_keeps_owner (params 2 1 1 1 1 1) (stop_and_back 1) (λ d. (node_of d 0).owner)
    (oks 6 ++ gives 0 ∷ []) (oks 6 ++ gives 1 ∷ [])
    -- process 0 puts back what process 1 is about to retire
    ∷ mistake reinsert_by_anyone (params 2 1 1 1 1 1)
    (allocate 0 0 70 ∷ publish 0 0 ∷ remove 1 0 ∷ reinsert 0 0 ∷ retire 1 0 ∷ [])
    (oks 3 ++ refuses 9 ∷ gives 0 ∷ []) (oks 4 ++ refuses 8 ∷ [])
    -- node 0 is on its way to be freed
    ∷ mistake reinsert_takes_retired (params 1 1 1 1 1 2) (turnover 0 0 70 ++ reinsert 0 0 ∷ [])
    (oks 4 ++ refuses 8 ∷ []) (oks 5)
    -- process 1 validated node 0 while it was guest 70's
    ∷ mistake reinsert_loses_guest (params 2 1 1 1 1 1) (stop_and_back 0 ++ use' 1 0 ∷ [])
    (oks 6 ++ gives 70 ∷ []) (oks 7)
    -- accepted, and the panel shows 0 where it should show 1
    ∷ mistake_left reinsert_not_raised (params 2 1 1 1 1 1) (stop_and_back 0) reachable_count
    (oks 6 ++ gives 1 ∷ []) (oks 6 ++ gives 0 ∷ [])
    -- node 0 is 2 old when it is handed over, and then 0
    ∷ mistake leave_keeps_stamp (params 2 1 2 1 1 1) (turnover 1 0 70 ++ tick ∷ tick ∷ leave 1 0 ∷ [] ++ turnover 0 1 60)
    (oks 11) (oks 10 ++ gives 1 ∷ [])
    -- process 1 is one epoch ahead of process 0, which takes over; process 2 has validated node 0
    ∷ mistake leave_keeps_limbo (params 3 1 1 1 1 2)
    (manage 1 ∷ manage 1 ∷ allocate 1 0 70 ∷ publish 1 0 ∷ protect 2 0 0 ∷ check 2 0 ∷ remove 1 0 ∷ retire 1 0 ∷ leave 1 0 ∷ manage 0
    ∷ allocate 0 0 80 ∷ publish 0 0 ∷ use' 2 0 ∷ [])
    (oks 10 ++ kept) (oks 9 ++ gives 1 ∷ [] ++ freed)
    -- nobody frees what is the absent process's
    ∷ mistake leaves_nodes_behind (params 2 1 2 1 1 1) (turnover 1 0 70 ++ leave 1 0 ∷ tick ∷ tick ∷ [] ++ turnover 0 1 60)
    (oks 10 ++ gives 1 ∷ []) (oks 11)
    -- the epochs do not go round
    ∷ mistake waits_for_epoch (params 2 1 1 1 1 2) (turnover 0 0 70 ++ leave 1 0 ∷ replicate 6 (manage 0))
    (oks 10 ++ gives 1 ∷ []) (oks 11)
    -- the path stays fallback
    ∷ mistake waits_for_presence (params 2 1 1 1 1 1) (turnover 0 0 70 ++ leave 1 0 ∷ replicate 6 (manage 0))
    (oks 10 ++ gives 1 ∷ []) (oks 11)
    -- the absent process validates node 0, and the epochs go round without it
    ∷ mistake absent_acts (params 2 1 1 1 1 2) (leave 1 0 ∷ claimed ++ replicate 6 (manage 0) ++ reused)
    (oks 3 ++ refuses 20 ∷ refuses 20 ∷ [] ++ oks 7 ++ gives 1 ∷ gives 0 ∷ gives 0 ∷ refuses 20 ∷ [])
    (oks 12 ++ gives 1 ∷ [] ++ freed)
    -- at global epoch 2 process 1 joins at 0, puts node 0 on that list, and comes to it while process 0 has node 0 validated
    ∷ mistake join_keeps_epoch (params 2 1 1 1 1 2)
    (leave 1 0 ∷ replicate 4 (manage 0) ++ join 1 ∷ allocate 1 0 70 ∷ publish 1 0 ∷ protect 0 0 0 ∷ check 0 0 ∷ remove 1 0 ∷ retire 1 0
    ∷ replicate 3 (manage 1) ++ allocate 1 0 80 ∷ publish 1 0 ∷ use' 0 0 ∷ [])
    (oks 15 ++ kept) (oks 14 ++ gives 1 ∷ [] ++ freed)
    -- at clock 2 the store of process 1 is not visible yet, and node 0 is 2 old
    ∷ mistake scan_not_late (params_of 2 1 2 1 1 1 1) (claimed ++ tick ∷ tick ∷ [] ++ turnover 0 1 60 ++ reused)
    (oks 12 ++ kept) (oks 11 ++ gives 1 ∷ [] ++ freed)
    -- at clock 1 the store of process 1 is 1 old
    ∷ mistake tick_not_late (params_of 2 1 2 1 1 1 1) (claimed ++ tick ∷ tick ∷ []) (oks 8) (oks 7 ++ refuses 16 ∷ [])
    -- at clock 3 node 0 is 3 old, and at clock 5 the store is 2 old
    ∷ mistake late_twice (params_of 1 1 2 1 1 1 1)
    (turnover 0 0 70 ++ replicate 3 tick ++ turnover 0 1 60 ++ clear 0 0 ∷ replicate 3 tick)
    (oks 10 ++ gives 1 ∷ [] ++ oks 3 ++ refuses 16 ∷ []) (oks 15)
    -- the store of process 1 is not visible yet
    ∷ mistake portion_frees_young (params 2 1 1 1 1 1) (claimed ++ portion 0 0 1 ∷ [] ++ reused)
    (oks 7 ++ kept) (oks 6 ++ gives 1 ∷ [] ++ freed)
    -- the store of process 1 is visible, and node 0 is 2 old
    ∷ mistake portion_unseen (params 2 1 1 1 1 1) (claimed ++ flush 1 ∷ tick ∷ tick ∷ portion 0 0 1 ∷ [] ++ reused)
    (oks 10 ++ kept) (oks 9 ++ gives 1 ∷ [] ++ freed)
    -- process 0 has cleared its hazard, which still shows node 0 to others
    ∷ mistake portion_own_unknown (params 1 1 1 1 1 1) (shown_to_all 0 ++ clear 0 0 ∷ portion 0 0 1 ∷ [])
    (oks 9 ++ gives 1 ∷ []) (oks 10)
    -- node 0 is process 1's, and node 1 process 0's
    ∷ mistake portion_takes_others (params 2 1 2 1 1 2) (turnover 1 0 70 ++ turnover 0 1 71 ++ tick ∷ tick ∷ portion 0 0 1 ∷ [])
    (oks 10 ++ gives 1 ∷ []) (oks 10 ++ gives 2 ∷ [])
    -- node 0 is not Retired, node 1 is
    ∷ mistake portion_of_nodes (params 1 1 2 1 1 2) (turnover 0 1 70 ++ tick ∷ tick ∷ portion 0 0 1 ∷ [])
    (oks 6 ++ gives 1 ∷ []) (oks 7)
    -- nodes 0 and 1 are due
    ∷ mistake portion_unlimited (params 1 1 2 1 1 3) (turnover 0 0 70 ++ turnover 0 1 71 ++ tick ∷ tick ∷ portion 0 0 1 ∷ [])
    (oks 10 ++ gives 1 ∷ []) (oks 10 ++ gives 2 ∷ [])
    -- of the two node 1 is free then, and not node 0
    ∷ mistake portion_from_zero (params 1 1 2 1 1 3) (turnover 0 0 70 ++ turnover 0 1 71 ++ tick ∷ tick ∷ portion 0 1 1 ∷ allocate 0 0 80 ∷ [])
    (oks 10 ++ gives 1 ∷ refuses 8 ∷ []) (oks 10 ++ gives 1 ∷ gives 0 ∷ [])
    -- 0 is no limit
    ∷ mistake portion_of_none (params 1 1 1 1 1 2) (portion 0 0 0 ∷ portion 0 0 1 ∷ []) (refuses 23 ∷ gives 0 ∷ []) (oks 2)
    -- 256 is one, and 257 is none
    ∷ mistake portion_of_more (params 1 1 1 1 1 2) (portion 0 0 256 ∷ portion 0 0 257 ∷ []) (gives 0 ∷ refuses 23 ∷ []) (oks 2)
    -- node 1 is the last
    ∷ mistake portion_past_last (params 1 1 2 1 1 2) (portion 0 1 1 ∷ portion 0 2 1 ∷ []) (gives 0 ∷ refuses 7 ∷ []) (oks 2)
    -- the epochs do not go round
    ∷ mistake advance_waits (params 1 1 1 1 1 2) (turnover 0 0 70 ++ replicate 6 (manage 0)) (oks 9 ++ gives 1 ∷ []) (oks 10)
    -- process 0 comes to epoch 1 and frees list 0, with node 0 that process 1 has validated
    ∷ mistake frees_list_before (params 2 1 1 1 1 2) (claimed ++ manage 0 ∷ manage 0 ∷ [] ++ reused)
    (oks 8 ++ kept) (oks 7 ++ gives 1 ∷ [] ++ freed)
    -- Q = 1, and three of six manages act
    ∷ mistake counts_past_q (params 1 1 1 1 1 2) (turnover 0 0 70 ++ replicate 6 (manage 0)) (oks 9 ++ gives 1 ∷ []) (oks 10)
    ∷ []

-- ---- what is claimed of a mistake

-- what machine f shows of the schedule: its answers, and what is then read off the domain
abbrev pub shown_by : (Domain → Step → Outcome) → Mistake → List Answer
shown_by f m = answers_by f m.start m.steps ++ map gives (m.looks (ended (machine f) m.start m.steps))

-- the rules and the machine show what was foretold, and not the same
abbrev pub ToldApart : Mistake → Type 0
ToldApart m = (shown_by step m ≡ m.right) × (shown_by m.machine m ≡ m.wrong) × (m.right ≢ m.wrong)
