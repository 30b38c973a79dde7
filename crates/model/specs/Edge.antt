-- The starred cases of 'On the edge' in the paper, all of them and in its order, and after them those of the later requests: each is data,
-- what is expected of it written by hand. Assumes nothing.
use Rattle.std.specs.Prelude.{ℕ, suc, List, [], ◌∷◌, ◌++◌, ◌≡◌, replicate}
use Rattle.lists.specs.Tests.{count}
use Rattle.model.specs.Params.{Params, params_of, InRange, word_count}
use Rattle.model.specs.State.{Domain, Step}
use Rattle.model.specs.WellFormed.{WellFormed}
use Rattle.model.specs.Kinds.{kind_count}
use Rattle.model.specs.Machine.{step, run, portioned, fresh}
use Rattle.model.specs.Retire.{retired_by}
use Rattle.model.specs.Reference.{Reference, initial}
use Rattle.model.specs.Claims.{reachable_count, raises, lowers, accepted_of, led, History, no_history, recorded}
use Rattle.model.specs.Claims.{bound}
use Rattle.model.specs.Cases.{Answer, gives, refuses, oks, answers_by, step_of, allocate, publish, protect, check}
use Rattle.model.specs.Cases.{use', clear, remove, retire, drain, flush, tick, manage, clear_presence, reinsert}
use Rattle.model.specs.Cases.{leave, join, portion, Numbers, numbers_of, tells, declines}
use Rattle.model.specs.Cases.{turnover, shown_to_all, stop_and_back, params, store, hazard, process, asleep, free}
use Rattle.model.specs.Cases.{allocated}
use Rattle.model.specs.Cases.{reachable, removed, retired}
use Rattle.model.specs.Cases.{domain, stray, crowd, crowded}

pub data Case : Type 0 where
  -- parameters, and the number of words
  Length : Params → ℕ → Case
  -- a start, steps, their answers, and the whole domain afterwards
  Run : Domain → List Step → List Answer → Domain → Case
  -- a start, steps, how often they raise and lower the panel, and its number afterwards
  Tally : Domain → List Step → ℕ → ℕ → ℕ → Case
  -- parameters, steps from a fresh domain by which nothing is freed, a process, its Retired nodes afterwards, and the bound on them
  Unfreed : Params → List Step → ℕ → ℕ → ℕ → Case
  -- a domain, a portion of it as a call: its process, the node that it starts from and its limit; its five numbers, and the whole
  -- domain afterwards
  Portion : Domain → ℕ → ℕ → ℕ → Numbers → Domain → Case

-- what the bound looks back on after steps by which nothing is freed
abbrev pub noting : Reference → Domain → History → List Step → History
noting q d h [] = h
noting q d h (s ∷ ss) = noting (led q s (step d s)) (step d s).after (recorded q s (step d s) h) ss

-- what is claimed of a case
abbrev pub Holds : Case → Type 0
Holds (Length a n) = word_count a ≡ n
Holds (Run d ss xs e) = (answers_by step d ss ≡ xs) × (run d ss ≡ e)
Holds (Tally d ss up down n) =
    (accepted_of raises d ss ≡ up) × (accepted_of lowers d ss ≡ down) × (reachable_count (run d ss) ≡ n)
Holds (Unfreed a ss p n b) =
    (count (retired_by p) (run (fresh a) ss).nodes ≡ n)
    × (bound a (noting (initial a.processes a.hazards a.nodes) (fresh a) no_history ss) p ≡ b)
Holds (Portion d p a l x e) = (numbers_of (portioned d p a l) ≡ x) × ((portioned d p a l).after ≡ e)

-- no case is about a domain that every call would refuse with 3: parameters in range, a well-formed start
abbrev pub StartsWell : Case → Type 0
StartsWell (Length a n) = InRange a
StartsWell (Run d ss xs e) = WellFormed d
StartsWell (Tally d ss up down n) = WellFormed d
StartsWell (Unfreed a ss p n b) = InRange a
StartsWell (Portion d p a l x e) = WellFormed d

-- a clock that cannot go on, and a pending store that is 3 old
abbrev pub stopped : Domain
stopped =
    domain (params 1 1 1 3 1 1) 4294967295 0 0
    (process 0 0 0 (store 0 1 4294967292 ∷ []) (hazard 0 1 0 ∷ []) ∷ [])
    (free ∷ [])

-- a well-formed domain that no run reaches: process 1 is absent at an epoch of its own, has checked in, shows node 0 to all and has a store pending
abbrev pub parked : Domain
parked =
    domain (params 2 1 2 1 1 1) 2 1 1
    (process 1 0 0 [] (hazard 0 0 0 ∷ []) ∷ asleep 2 0 1 (store 0 0 2 ∷ []) (hazard 1 0 0 ∷ []) ∷ [])
    (retired 0 70 0 0 ∷ free ∷ [])

-- T = 1000 and E = 1000: at clock 1999 a pending store and a Retired node of clock 0
abbrev pub overdue : Domain
overdue =
    domain (params_of 1 1 3 1000 1 1 1000) 1999 1 0
    (process 0 0 0 (store 0 0 0 ∷ []) (hazard 0 0 0 ∷ []) ∷ [])
    (retired 0 70 0 0 ∷ free ∷ free ∷ [])

-- every kind that process p is asked 20 at, but for a join
abbrev pub steps_of : ℕ → List Step
steps_of p =
    allocate p 0 70 ∷ publish p 0 ∷ protect p 0 0 ∷ check p 0 ∷ use' p 0 ∷ clear p 0 ∷ remove p 0 ∷ retire p 0 ∷ drain p ∷ flush p
    ∷ manage p ∷ reinsert p 0 ∷ leave p 0 ∷ portion p 0 1 ∷ []

abbrev pub cases : List Case
cases =
    -- length at 1, 1, 1 is 47
    Length (params 1 1 1 1 1 1) 47
    -- at 16, 8, 256 it is 2138
    ∷ Length (params 16 8 256 1 1 1) 2138
    -- T = 3, stamp 0: a scan at clock 3 keeps the card (the scan is the second retire's, C being 1)
    ∷ Run (fresh (params 1 1 2 3 1 1)) (turnover 0 0 70 ++ replicate 3 tick ++ turnover 0 1 60)
    (oks 11)
    (domain (params 1 1 2 3 1 1) 3 1 0
    (process 0 0 0 [] (hazard 0 0 0 ∷ []) ∷ [])
    (retired 0 70 0 0 ∷ retired 0 60 3 0 ∷ []))
    -- at 4 frees it if off the board
    ∷ Run (fresh (params 1 1 2 3 1 1)) (turnover 0 0 70 ++ replicate 4 tick ++ turnover 0 1 60)
    (oks 11 ++ gives 1 ∷ [])
    (domain (params 1 1 2 3 1 1) 4 1 0
    (process 0 0 0 [] (hazard 0 0 0 ∷ []) ∷ [])
    (free ∷ retired 0 60 4 0 ∷ []))
    -- keeps it if on
    ∷ Run (fresh (params 1 1 2 3 1 1))
    (allocate 0 0 70 ∷ publish 0 0 ∷ protect 0 0 0 ∷ drain 0 ∷ remove 0 0 ∷ retire 0 0 ∷ replicate 4 tick ++ turnover 0 1 60)
    (oks 14)
    (domain (params 1 1 2 3 1 1) 4 1 0
    (process 0 0 0 [] (hazard 1 1 0 ∷ []) ∷ [])
    (retired 0 70 0 0 ∷ retired 0 60 4 0 ∷ []))
    -- the eighth mail entry is taken, the ninth gets 13 (of either kind)
    ∷ Run (fresh (params 1 1 1 1 1 1))
    (protect 0 0 0 ∷ clear 0 0 ∷ protect 0 0 0 ∷ clear 0 0 ∷ protect 0 0 0 ∷ clear 0 0 ∷ protect 0 0 0 ∷ clear 0 0
    ∷ protect 0 0 0 ∷ clear 0 0 ∷ [])
    (oks 8 ++ refuses 13 ∷ refuses 13 ∷ [])
    (domain (params 1 1 1 1 1 1) 0 0 0
    (process 0 0 0
    (store 0 1 0 ∷ store 0 0 0 ∷ store 0 1 0 ∷ store 0 0 0 ∷ store 0 1 0 ∷ store 0 0 0 ∷ store 0 1 0
    ∷ store 0 0 0 ∷ [])
    (hazard 0 0 0 ∷ []) ∷ [])
    (free ∷ []))
    -- C = 2: first retire stays fast (a manage before it, so that presence is there to be forgotten)
    ∷ Run (fresh (params 1 1 2 3 1 2)) (manage 0 ∷ turnover 0 0 70)
    (oks 5)
    (domain (params 1 1 2 3 1 2) 0 0 1
    (process 0 0 1 [] (hazard 0 0 0 ∷ []) ∷ [])
    (retired 0 70 0 0 ∷ free ∷ []))
    -- second switches
    ∷ Run (fresh (params 1 1 2 3 1 2)) (manage 0 ∷ turnover 0 0 70 ++ turnover 0 1 60)
    (oks 9)
    (domain (params 1 1 2 3 1 2) 0 1 1
    (process 0 0 0 [] (hazard 0 0 0 ∷ []) ∷ [])
    (retired 0 70 0 0 ∷ retired 0 60 0 0 ∷ []))
    -- Q = 3: only the third manage acts: two count
    ∷ Run (fresh (params 1 1 1 1 3 1)) (replicate 2 (manage 0))
    (oks 2)
    (domain (params 1 1 1 1 3 1) 0 0 0 (process 0 2 0 [] (hazard 0 0 0 ∷ []) ∷ []) (free ∷ []))
    -- and the third sets presence and moves the global epoch
    ∷ Run (fresh (params 1 1 1 1 3 1)) (replicate 3 (manage 0))
    (oks 3)
    (domain (params 1 1 1 1 3 1) 0 0 1 (process 0 0 1 [] (hazard 0 0 0 ∷ []) ∷ []) (free ∷ []))
    -- N = 1, Q = 1, C = 2, a card retired on a fresh epoch: the sixth manage frees it
    ∷ Run (fresh (params 1 1 1 3 1 2)) (turnover 0 0 70 ++ replicate 6 (manage 0))
    (oks 9 ++ gives 1 ∷ [])
    (domain (params 1 1 1 3 1 2) 0 0 0 (process 0 0 1 [] (hazard 0 0 0 ∷ []) ∷ []) (free ∷ []))
    -- clock 4294967295 with due mail: 15
    ∷ Run stopped (tick ∷ []) (refuses 15 ∷ []) stopped
    -- use after protect without check: 12
    ∷ Run (fresh (params 1 1 1 1 1 1)) (allocate 0 0 70 ∷ publish 0 0 ∷ protect 0 0 0 ∷ use' 0 0 ∷ [])
    (oks 3 ++ refuses 12 ∷ [])
    (domain (params 1 1 1 1 1 1) 0 0 0
    (process 0 0 0 (store 0 1 0 ∷ []) (hazard 0 1 0 ∷ []) ∷ [])
    (reachable 70 ∷ []))
    -- request 1: an own slot cleared and not yet drained, its card old: freed (paper 01 alone keeps it: `own_unknown` of Mistakes)
    ∷ Run (fresh (params 1 1 2 1 1 1)) (shown_to_all 0 ++ clear 0 0 ∷ turnover 0 1 60)
    (oks 12 ++ gives 1 ∷ [])
    (domain (params 1 1 2 1 1 1) 2 1 0
    (process 0 0 0 (store 0 0 2 ∷ []) (hazard 1 0 0 ∷ []) ∷ [])
    (free ∷ retired 0 60 2 0 ∷ []))
    -- an own slot with two mail entries, the card and then none: the last counts, and the card is freed
    ∷ Run (fresh (params 1 1 2 1 1 1)) (turnover 0 0 70 ++ tick ∷ tick ∷ protect 0 0 0 ∷ clear 0 0 ∷ turnover 0 1 60)
    (oks 11 ++ gives 1 ∷ [])
    (domain (params 1 1 2 1 1 1) 2 1 0
    (process 0 0 0 (store 0 1 2 ∷ store 0 0 2 ∷ []) (hazard 0 0 0 ∷ []) ∷ [])
    (free ∷ retired 0 60 2 0 ∷ []))
    -- none and then the card: kept
    ∷ Run (fresh (params 1 1 2 1 1 1)) (turnover 0 0 70 ++ tick ∷ tick ∷ clear 0 0 ∷ protect 0 0 0 ∷ turnover 0 1 60)
    (oks 12)
    (domain (params 1 1 2 1 1 1) 2 1 0
    (process 0 0 0 (store 0 0 2 ∷ store 0 1 2 ∷ []) (hazard 0 1 0 ∷ []) ∷ [])
    (retired 0 70 0 0 ∷ retired 0 60 2 0 ∷ []))
    -- of two slots with mail in turns each counts as its own last entry: card 0, which slot 1 has at last, is kept, and card 1 is freed
    ∷ Run (fresh (params 1 2 3 1 1 1))
    (turnover 0 0 70 ++ turnover 0 1 71 ++ tick ∷ tick ∷ protect 0 0 0 ∷ protect 0 1 1 ∷ clear 0 0 ∷ protect 0 1 0 ∷ turnover 0 2 60)
    (oks 17 ++ gives 1 ∷ [])
    (domain (params 1 2 3 1 1 1) 2 1 0
    (process 0 0 0 (store 0 1 2 ∷ store 1 2 2 ∷ store 0 0 2 ∷ store 1 1 2 ∷ []) (hazard 0 0 0 ∷ hazard 0 1 0 ∷ []) ∷ [])
    (retired 0 70 0 0 ∷ free ∷ retired 0 60 2 0 ∷ []))
    -- another worker's slot cleared and not drained: kept
    ∷ Run (fresh (params 2 1 2 1 1 1)) (shown_to_all 1 ++ clear 1 0 ∷ turnover 0 1 60)
    (oks 13)
    (domain (params 2 1 2 1 1 1) 2 1 0
    (process 0 0 0 [] (hazard 0 0 0 ∷ []) ∷ process 0 0 0 (store 0 0 2 ∷ []) (hazard 1 0 0 ∷ []) ∷ [])
    (retired 0 70 0 0 ∷ retired 0 60 2 0 ∷ []))
    -- a desk that no run reaches, where the armed card is not the last in the mail: the last in the mail counts
    ∷ Run stray (turnover 0 2 60)
    (oks 3 ++ gives 1 ∷ [])
    (domain (params 1 1 3 1 1 1) 2 1 0
    (process 0 0 0 (store 0 1 2 ∷ []) (hazard 0 2 0 ∷ []) ∷ [])
    (retired 0 70 0 0 ∷ free ∷ retired 0 60 2 0 ∷ []))
    -- request 2: a card removed and reposted is as it was, and a claim of before lives through it
    ∷ Run (fresh (params 2 1 1 1 1 1)) (stop_and_back 1 ++ use' 1 0 ∷ [])
    (oks 6 ++ gives 70 ∷ [])
    (domain (params 2 1 1 1 1 1) 0 0 0
    (process 0 0 0 [] (hazard 0 0 0 ∷ []) ∷ process 0 0 0 (store 0 1 0 ∷ []) (hazard 0 1 1 ∷ []) ∷ [])
    (reachable 70 ∷ []))
    -- only by the worker that removed it: 9
    ∷ Run (fresh (params 2 1 1 1 1 1)) (allocate 0 0 70 ∷ publish 0 0 ∷ remove 1 0 ∷ reinsert 0 0 ∷ [])
    (oks 3 ++ refuses 9 ∷ [])
    (domain (params 2 1 1 1 1 1) 0 0 0
    (process 0 0 0 [] (hazard 0 0 0 ∷ []) ∷ process 0 0 0 [] (hazard 0 0 0 ∷ []) ∷ [])
    (removed 1 70 ∷ []))
    -- only a Removed card: Free, Allocated, Reachable and Retired get 8
    ∷ Run (fresh (params 1 1 1 1 1 2))
    (reinsert 0 0 ∷ allocate 0 0 70 ∷ reinsert 0 0 ∷ publish 0 0 ∷ reinsert 0 0 ∷ remove 0 0 ∷ retire 0 0 ∷ reinsert 0 0 ∷ [])
    (refuses 8 ∷ gives 0 ∷ refuses 8 ∷ gives 0 ∷ refuses 8 ∷ gives 0 ∷ gives 0 ∷ refuses 8 ∷ [])
    (domain (params 1 1 1 1 1 2) 0 0 0
    (process 0 0 0 [] (hazard 0 0 0 ∷ []) ∷ [])
    (retired 0 70 0 0 ∷ []))
    -- a worker and a card out of range: 5 before 7; the kind after the last: 4
    ∷ Run (fresh (params 1 1 1 1 1 1)) (reinsert 1 1 ∷ reinsert 0 1 ∷ step_of (suc kind_count) 0 0 0 0 ∷ [])
    (refuses 5 ∷ refuses 7 ∷ refuses 4 ∷ [])
    (domain (params 1 1 1 1 1 1) 0 0 0 (process 0 0 0 [] (hazard 0 0 0 ∷ []) ∷ []) (free ∷ []))
    -- a card that came back goes round as any other: the next scan by the worker that retired it frees it
    ∷ Run (fresh (params 1 1 2 1 1 1))
    (allocate 0 0 70 ∷ publish 0 0 ∷ remove 0 0 ∷ reinsert 0 0 ∷ remove 0 0 ∷ retire 0 0 ∷ tick ∷ tick ∷ turnover 0 1 60)
    (oks 11 ++ gives 1 ∷ [])
    (domain (params 1 1 2 1 1 1) 2 1 0
    (process 0 0 0 [] (hazard 0 0 0 ∷ []) ∷ [])
    (free ∷ retired 0 60 2 0 ∷ []))
    -- the panel: raised by a publish and a repost, lowered by a remove, and by no refused step
    ∷ Tally (fresh (params 2 1 1 1 1 1)) (reinsert 1 0 ∷ stop_and_back 1 ++ reinsert 1 0 ∷ []) 2 1 1
    -- request 3: a worker that has left gets 20 at every kind, before 6 and 7; so does the join of one that is present
    ∷ Run (fresh (params 2 1 1 1 1 1)) (join 0 ∷ leave 1 0 ∷ steps_of 1 ++ protect 1 9 9 ∷ join 2 ∷ leave 2 0 ∷ [])
    (refuses 20 ∷ gives 0 ∷ replicate 14 (refuses 20) ++ refuses 20 ∷ refuses 5 ∷ refuses 5 ∷ [])
    (domain (params 2 1 1 1 1 1) 0 0 0
    (process 0 0 0 [] (hazard 0 0 0 ∷ []) ∷ asleep 0 0 0 [] (hazard 0 0 0 ∷ []) ∷ [])
    (free ∷ []))
    -- a leave with an Allocated card, with a Removed one, with an armed slot, with mail: 21; with none of them it is taken
    ∷ Run (fresh (params 2 1 2 1 1 1))
    (allocate 1 0 70 ∷ leave 1 0 ∷ publish 1 0 ∷ remove 1 0 ∷ leave 1 0 ∷ reinsert 1 0 ∷ protect 1 0 0 ∷ flush 1 ∷ leave 1 0 ∷ clear 1 0
    ∷ leave 1 0 ∷ flush 1 ∷ leave 1 0 ∷ [])
    (gives 0 ∷ refuses 21 ∷ gives 0 ∷ gives 0 ∷ refuses 21 ∷ gives 0 ∷ gives 0 ∷ gives 0 ∷ refuses 21 ∷ gives 0 ∷ refuses 21 ∷ gives 0
    ∷ gives 0 ∷ [])
    (domain (params 2 1 2 1 1 1) 0 0 0
    (process 0 0 0 [] (hazard 0 0 0 ∷ []) ∷ asleep 0 0 0 [] (hazard 0 0 0 ∷ []) ∷ [])
    (reachable 70 ∷ free ∷ []))
    -- to itself, to none that there is, to one that is absent: 22, and 21 before it
    ∷ Run (fresh (params 3 1 1 1 1 1)) (leave 1 1 ∷ leave 1 3 ∷ leave 1 2 ∷ leave 0 1 ∷ allocate 0 0 70 ∷ leave 0 1 ∷ [])
    (refuses 22 ∷ refuses 22 ∷ gives 0 ∷ refuses 22 ∷ gives 0 ∷ refuses 21 ∷ [])
    (domain (params 3 1 1 1 1 1) 0 0 0
    (process 0 0 0 [] (hazard 0 0 0 ∷ []) ∷ asleep 0 0 0 [] (hazard 0 0 0 ∷ []) ∷ process 0 0 0 [] (hazard 0 0 0 ∷ []) ∷ [])
    (allocated 0 70 ∷ []))
    -- N = 1: 22
    ∷ Run (fresh (params 1 1 1 1 1 1)) (leave 0 0 ∷ leave 0 1 ∷ [])
    (refuses 22 ∷ refuses 22 ∷ [])
    (domain (params 1 1 1 1 1 1) 0 0 0 (process 0 0 0 [] (hazard 0 0 0 ∷ []) ∷ []) (free ∷ []))
    -- worker 1 holds the epoch up
    ∷ Run (fresh (params 2 1 1 1 1 2)) (replicate 4 (manage 0))
    (oks 4)
    (domain (params 2 1 1 1 1 2) 0 0 1
    (process 1 0 1 [] (hazard 0 0 0 ∷ []) ∷ process 0 0 0 [] (hazard 0 0 0 ∷ []) ∷ [])
    (free ∷ []))
    -- until it leaves; and it joins at another epoch than it left with
    ∷ Run (fresh (params 2 1 1 1 1 2)) (replicate 3 (manage 0) ++ leave 1 0 ∷ manage 0 ∷ join 1 ∷ [])
    (oks 6)
    (domain (params 2 1 1 1 1 2) 0 0 2
    (process 1 0 1 [] (hazard 0 0 0 ∷ []) ∷ process 2 0 0 [] (hazard 0 0 0 ∷ []) ∷ [])
    (free ∷ []))
    -- a card handed over counts its age from then: at age T the new owner's scan keeps it, one tick later it frees it
    ∷ Run (fresh (params 2 1 3 1 1 1))
    (turnover 1 0 70 ++ tick ∷ tick ∷ leave 1 0 ∷ tick ∷ turnover 0 1 60 ++ tick ∷ turnover 0 2 61)
    (oks 16 ++ gives 1 ∷ [])
    (domain (params 2 1 3 1 1 1) 4 1 0
    (process 0 0 0 [] (hazard 0 0 0 ∷ []) ∷ asleep 0 0 0 [] (hazard 0 0 0 ∷ []) ∷ [])
    (free ∷ retired 0 60 3 0 ∷ retired 0 61 4 0 ∷ []))
    -- and is in the list of its new owner's epoch: it goes with list 1, not with list 0, which it was in
    ∷ Run (fresh (params 2 1 1 1 1 2)) (turnover 1 0 70 ++ manage 0 ∷ manage 0 ∷ leave 1 0 ∷ replicate 6 (manage 0))
    (oks 12 ++ gives 1 ∷ [])
    (domain (params 2 1 1 1 1 2) 0 0 1
    (process 1 0 1 [] (hazard 0 0 0 ∷ []) ∷ asleep 0 0 0 [] (hazard 0 0 0 ∷ []) ∷ [])
    (free ∷ []))
    -- in the bound they count as retired by the new owner then: of 2 and 5, 4 of which were handed over
    ∷ Unfreed (params 2 1 5 9 1 1)
    (turnover 1 0 70 ++ turnover 1 1 71 ++ turnover 1 2 72 ++ turnover 1 3 73 ++ leave 1 0 ∷ turnover 0 4 74) 0 5 7
    -- on the fallback path worker 1 is waited for
    ∷ Run (fresh (params 2 1 1 1 1 1)) (turnover 0 0 70 ++ manage 0 ∷ [])
    (oks 5)
    (domain (params 2 1 1 1 1 1) 0 1 0
    (process 0 0 1 [] (hazard 0 0 0 ∷ []) ∷ process 0 0 0 [] (hazard 0 0 0 ∷ []) ∷ [])
    (retired 0 70 0 0 ∷ []))
    -- until it leaves
    ∷ Run (fresh (params 2 1 1 1 1 1)) (turnover 0 0 70 ++ leave 1 0 ∷ manage 0 ∷ [])
    (oks 6)
    (domain (params 2 1 1 1 1 1) 0 0 1
    (process 0 0 1 [] (hazard 0 0 0 ∷ []) ∷ asleep 0 0 0 [] (hazard 0 0 0 ∷ []) ∷ [])
    (retired 0 70 0 0 ∷ []))
    -- a desk that no run reaches: the absent worker's slot is on the board, its presence word is cleared, its epoch and its presence are not asked
    -- for, its mail is; it is no heir; joined, it keeps its mail, and so does not leave
    ∷ Run parked
    (turnover 0 1 60 ++ clear_presence ∷ manage 0 ∷ tick ∷ tick ∷ leave 0 1 ∷ use' 1 0 ∷ join 0 ∷ join 1 ∷ leave 1 0 ∷ leave 0 1 ∷ [])
    (oks 7 ++ refuses 16 ∷ refuses 22 ∷ refuses 20 ∷ refuses 20 ∷ gives 0 ∷ refuses 21 ∷ gives 0 ∷ [])
    (domain (params 2 1 2 1 1 1) 3 0 2
    (asleep 0 0 0 [] (hazard 0 0 0 ∷ []) ∷ process 2 0 0 (store 0 0 2 ∷ []) (hazard 1 0 0 ∷ []) ∷ [])
    (retired 1 70 3 2 ∷ retired 1 60 3 2 ∷ []))
    -- request 4: the length does not go by E
    ∷ Length (params_of 1 1 1 1 1 1 1000) 47
    -- T = 3, E = 2, stamp 0: a scan at clock 5 keeps the card
    ∷ Run (fresh (params_of 1 1 2 3 1 1 2)) (turnover 0 0 70 ++ replicate 5 tick ++ turnover 0 1 60)
    (oks 13)
    (domain (params_of 1 1 2 3 1 1 2) 5 1 0
    (process 0 0 0 [] (hazard 0 0 0 ∷ []) ∷ [])
    (retired 0 70 0 0 ∷ retired 0 60 5 0 ∷ []))
    -- at 6 frees it
    ∷ Run (fresh (params_of 1 1 2 3 1 1 2)) (turnover 0 0 70 ++ replicate 6 tick ++ turnover 0 1 60)
    (oks 13 ++ gives 1 ∷ [])
    (domain (params_of 1 1 2 3 1 1 2) 6 1 0
    (process 0 0 0 [] (hazard 0 0 0 ∷ []) ∷ [])
    (free ∷ retired 0 60 6 0 ∷ []))
    -- a tick with mail of age T + E − 1 is taken, with mail of age T + E it gets 16, and the rooster helps
    ∷ Run (fresh (params_of 1 1 1 3 1 1 2)) (clear 0 0 ∷ replicate 6 tick ++ flush 0 ∷ tick ∷ [])
    (oks 6 ++ refuses 16 ∷ gives 0 ∷ gives 0 ∷ [])
    (domain (params_of 1 1 1 3 1 1 2) 6 0 0 (process 0 0 0 [] (hazard 0 0 0 ∷ []) ∷ []) (free ∷ []))
    -- E = 1000 and T = 1000: mail of age 1999 is young and of 2000 is not; a scan at age 2000 keeps the card, at 2001 it frees it
    ∷ Run overdue (tick ∷ tick ∷ turnover 0 1 60 ++ flush 0 ∷ tick ∷ turnover 0 2 61)
    (gives 0 ∷ refuses 16 ∷ oks 9 ++ gives 1 ∷ [])
    (domain (params_of 1 1 3 1000 1 1 1000) 2001 1 0
    (process 0 0 0 [] (hazard 0 0 0 ∷ []) ∷ [])
    (free ∷ retired 0 60 2000 0 ∷ retired 0 61 2001 0 ∷ []))
    -- the bound counts what was retired over T + E ticks: 1 and 4, of which T alone would count 2
    ∷ Unfreed (params_of 1 1 4 1 1 1 2)
    (turnover 0 0 70 ++ tick ∷ turnover 0 1 71 ++ tick ∷ turnover 0 2 72 ++ tick ∷ turnover 0 3 73) 0 4 5
    -- request 7: of five Retired cards two are examined, of which the one of age T is kept; three are left, worker 1's card not among them
    ∷ Portion crowded 0 0 2
    (tells 1 2 3 3)
    (crowd (free ∷ removed 0 71 ∷ retired 0 72 3 1 ∷ retired 1 73 0 0 ∷ retired 0 74 0 0 ∷ retired 0 75 1 2 ∷ retired 0 76 2 0 ∷ []))
    -- from worker 1's card on: that one is not examined, and the next, which is on the board, is examined and kept
    ∷ Portion crowded 0 3 1 (tells 0 1 5 2) crowded
    -- the L-th is the last card: the card to go on from is M
    ∷ Portion crowded 0 3 3
    (tells 2 3 7 0) (crowd (retired 0 70 0 0 ∷ removed 0 71 ∷ retired 0 72 3 1 ∷ retired 1 73 0 0 ∷ retired 0 74 0 0 ∷ free ∷ free ∷ []))
    -- the L-th is the last of the worker's Retired cards, and not the last card: the card to go on from is the one after it
    ∷ Portion crowded 1 0 1
    (tells 1 1 4 0)
    (crowd (retired 0 70 0 0 ∷ removed 0 71 ∷ retired 0 72 3 1 ∷ free ∷ retired 0 74 0 0 ∷ retired 0 75 1 2 ∷ retired 0 76 2 0 ∷ []))
    -- fewer than L: it is M
    ∷ Portion crowded 1 0 2
    (tells 1 1 7 0)
    (crowd (retired 0 70 0 0 ∷ removed 0 71 ∷ retired 0 72 3 1 ∷ free ∷ retired 0 74 0 0 ∷ retired 0 75 1 2 ∷ retired 0 76 2 0 ∷ []))
    -- none at all
    ∷ Portion crowded 1 4 1 (tells 0 0 7 0) crowded
    -- from the last card
    ∷ Portion crowded 0 6 1
    (tells 1 1 7 0)
    (crowd (retired 0 70 0 0 ∷ removed 0 71 ∷ retired 0 72 3 1 ∷ retired 1 73 0 0 ∷ retired 0 74 0 0 ∷ retired 0 75 1 2 ∷ free ∷ []))
    -- L = 256
    ∷ Portion crowded 0 0 256
    (tells 3 5 7 0) (crowd (free ∷ removed 0 71 ∷ retired 0 72 3 1 ∷ retired 1 73 0 0 ∷ retired 0 74 0 0 ∷ free ∷ free ∷ []))
    -- L = 0 and L = 257: 23
    ∷ Portion crowded 0 0 0 (declines 23) crowded
    ∷ Portion crowded 0 0 257 (declines 23) crowded
    -- the start card is M: 7, and 7 before 23
    ∷ Portion crowded 0 7 1 (declines 7) crowded
    ∷ Portion crowded 0 7 0 (declines 7) crowded
    -- worker N: 5 before both; an absent worker: 20 before both
    ∷ Portion crowded 2 7 0 (declines 5) crowded
    ∷ Portion parked 1 2 0 (declines 20) parked
    -- an absent worker's slot is on the board
    ∷ Portion parked 0 0 1 (tells 0 1 1 0) parked
    -- a card in the worker's own mail is kept, and the one that its slot is armed with is freed
    ∷ Portion stray 0 0 2
    (tells 1 2 2 0)
    (domain (params 1 1 3 1 1 1) 2 1 0
    (process 0 0 0 (store 0 1 2 ∷ []) (hazard 0 2 0 ∷ []) ∷ [])
    (retired 0 70 0 0 ∷ free ∷ free ∷ []))
    -- as steps: an own slot cleared and still in the mail, its card old: freed
    ∷ Run (fresh (params 1 1 2 1 1 1)) (shown_to_all 0 ++ clear 0 0 ∷ portion 0 0 1 ∷ [])
    (oks 9 ++ gives 1 ∷ [])
    (domain (params 1 1 2 1 1 1) 2 1 0 (process 0 0 0 (store 0 0 2 ∷ []) (hazard 1 0 0 ∷ []) ∷ []) (free ∷ free ∷ []))
    -- T = 1000 and E = 1000: at age 2000 a portion keeps the card, at 2001 it frees it
    ∷ Run overdue (tick ∷ portion 0 0 1 ∷ flush 0 ∷ tick ∷ portion 0 0 1 ∷ [])
    (oks 4 ++ gives 1 ∷ [])
    (domain (params_of 1 1 3 1000 1 1 1000) 2001 1 0 (process 0 0 0 [] (hazard 0 0 0 ∷ []) ∷ []) (free ∷ free ∷ free ∷ []))
    -- on the fast path, with C Retired cards since worker 1 left: path and presence stay as they are
    ∷ Run (fresh (params 2 1 2 1 1 2)) (manage 0 ∷ turnover 1 0 70 ++ turnover 0 1 71 ++ tick ∷ tick ∷ leave 1 0 ∷ portion 0 0 256 ∷ [])
    (oks 12 ++ gives 1 ∷ [])
    (domain (params 2 1 2 1 1 2) 2 0 1
    (process 0 0 1 [] (hazard 0 0 0 ∷ []) ∷ asleep 0 0 0 [] (hazard 0 0 0 ∷ []) ∷ [])
    (retired 0 70 2 0 ∷ free ∷ []))
    -- portions from card 0 on, each from where the one before ended, a use and refused ones between: a retire's scan finds nothing then
    ∷ Run crowded (portion 0 0 2 ∷ portion 0 3 0 ∷ portion 0 3 2 ∷ use' 1 0 ∷ portion 0 6 257 ∷ portion 0 6 2 ∷ portion 0 7 2 ∷ retire 0 1 ∷ [])
    (gives 1 ∷ refuses 23 ∷ gives 1 ∷ gives 74 ∷ refuses 23 ∷ gives 1 ∷ refuses 7 ∷ gives 0 ∷ [])
    (crowd (free ∷ retired 0 71 4 0 ∷ retired 0 72 3 1 ∷ retired 1 73 0 0 ∷ retired 0 74 0 0 ∷ free ∷ free ∷ []))
    -- without them it frees the three, and leaves the same desk
    ∷ Run crowded (retire 0 1 ∷ [])
    (gives 3 ∷ [])
    (crowd (free ∷ retired 0 71 4 0 ∷ retired 0 72 3 1 ∷ retired 1 73 0 0 ∷ retired 0 74 0 0 ∷ free ∷ free ∷ []))
    ∷ []
