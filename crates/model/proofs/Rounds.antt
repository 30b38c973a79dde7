-- What is Retired is freed within seven rounds. In a round that brings a node no closer every process comes to the global epoch, and in the
-- round after it the first manage that acts brings it closer: two rounds for each of at most three epochs, and one in which the owner's
-- quiescent state frees. Assumes nothing.
use Prim.Native.Nat.{ℕ, suc, ◌+◌, ◌*◌, ◌<◌, ◌≤◌}
use mathlib.Core.Bool.{Bool, true, false, not, ◌&&◌, ◌||◌, cond, false≢true}
use mathlib.Core.List.{List, [], ◌∷◌}
use mathlib.Core.Path.{◌≡◌, refl, sym, ◌∙◌, ap}
use mathlib.Core.Logic.{◌≢◌, ◌⊎◌, inl, inr}
use native.Mathlib.Omega.{arith}
use borrow.Author.Tests.{eqb-true, eqb-false, leb-true, eq-eqb, ne_eqb}
use lib.ListN.{length}
use lib.Dec.{eqb}
use Rattle.lists.specs.Tests.{every, count}
use Rattle.lists.proofs.Bools.{both, implied}
use Rattle.lists.proofs.Facts.{inside, every-follows}
use Rattle.lists.proofs.Counts.{count-one}
use Rattle.lists.proofs.Upto.{all-at}
use Rattle.model.specs.Params.{Params, InRange}
use Rattle.model.specs.State.{Domain, Step, Free, Retired, Fast, no_process, node_of, process_of, is_present}
use Rattle.model.specs.WellFormed.{WellFormed}
use Rattle.model.specs.Kinds.{kind_of, Manage, Leave}
use Rattle.model.specs.Machine.{step, run, fresh}
use Rattle.model.specs.Rounds.{machine, Transition, transitions, ended, Stretch, stretches, manages, leaves}
use Rattle.model.specs.Rounds.{is_present_in, is_round, is_fast, owner_leaves, always, never, turns_free}
use Rattle.model.specs.Rounds.{FreedInRounds, SevenRounds, SevenRoundsOfOwner, SixRounds}
use Rattle.model.proofs.KindNumbers.{same_kind}
use Rattle.model.proofs.Invariant.{Inv}
use Rattle.model.proofs.Preserved.{invariant-step, invariant-fresh}
use Rattle.model.proofs.WellFormed.{process-fits, well-formed-step, well-formed-fresh}
use Rattle.model.proofs.Distance.{distance, distance_most, distance-three, distance_none}
use Rattle.model.proofs.Nearing.{AtGlobal, calls_of, owner-there, Kept, Acted, turn, is_left, Counted, Moved}
use Rattle.model.proofs.Nearing.{kept_refl}
use Rattle.model.proofs.Nearing.{same-both, kept_trans}
use Rattle.model.proofs.NearingSteps.{moved}

-- what is known of a domain that is reached
record Reached (d : Domain) : Type 0 where
  inv : Inv d
  formed : WellFormed d

reached-step : (d : Domain) (s : Step) → Reached d → Reached (step d s).after
reached-step d s r = record { inv = invariant-step d s r.inv; formed = well-formed-step d s r.formed }

reached-run : (ss : List Step) (d : Domain) → Reached d → Reached (run d ss)
reached-run [] d r = r
reached-run (s ∷ ss) d r = reached-run ss (step d s).after (reached-step d s r)

reached : (a : Params) (ss : List Step) → InRange a → Reached (run (fresh a) ss)
reached a ss h = reached-run ss (fresh a) (record { inv = invariant-fresh a; formed = well-formed-fresh a h })

-- of the states before and after a step
not-freed : (x y : ℕ) → not (not (eqb x Free) && eqb y Free) ≡ true → x ≢ Free → y ≢ Free
not-freed x y h n e = false≢true (rw (ne_eqb x Free n, eq-eqb y Free e) at h)

module _ (c : ℕ) where
  -- node c is Retired in a domain that is reached
  record Waits (d : Domain) : Type 0 where
    reached' : Reached d
    retired : (node_of d c).state ≡ Retired

  -- steps on the fast path by which its owner does not leave and which do not free it
  record Calm (ts : List Transition) : Type 0 where
    fast : every is_fast ts ≡ true
    stays : every (λ t. not (owner_leaves c t)) ts ≡ true
    kept : every (λ t. not (turns_free c t)) ts ≡ true

  abbrev taken : Domain → List Step → List Transition
  taken d ss = transitions (machine step) d ss

  calm-rest : (t : Transition) (ts : List Transition) → Calm (t ∷ ts) → Calm ts
  calm-rest t ts h =
      record {
        fast = (both (is_fast t) _ h.fast).1;
        stays = (both (not (owner_leaves c t)) _ h.stays).1;
        kept = (both (not (turns_free c t)) _ h.kept).1;
      }

  -- ---- steps

  moved-step : (d : Domain) (s : Step) → Waits d → d.path ≡ Fast
      → not (eqb (step d s).refusal 0 && (eqb s.kind 15 && eqb s.process (node_of d c).owner)) ≡ true
      → (node_of (step d s).after c).state ≢ Free → Moved c (kind_of s.kind) d s (step d s)
  unfolding step
  moved-step d s w f l n =
      moved c d s w.reached'.inv w.reached'.formed w.retired f (kind_of s.kind)
      (ap (λ b. not (eqb (step d s).refusal 0 && (b && eqb s.process (node_of d c).owner))) (sym (same_kind s.kind Leave refl)) ∙ l) n

  -- the first of them
  module _ (d : Domain) (s : Step) (ss : List Step) (w : Waits d) (h : Calm (taken d (s ∷ ss))) where
    first : Moved c (kind_of s.kind) d s (step d s)
    first =
        moved-step d s w (eqb-true _ _ (both (eqb d.path Fast) _ (both _ _ h.fast).0).0) (both _ _ h.stays).0
        (not-freed (node_of d c).state _ (both _ _ h.kept).0 (λ z. omega (arith, w.retired)))

    then' : Waits (step d s).after
    then' =
        record {
          reached' = reached-step d s w.reached';
          retired = ap (λ n. n.state) first.kept.node ∙ w.retired;
        }

  kept_run : (ss : List Step) (d : Domain) → Waits d → Calm (taken d ss) → Kept c d (ended (machine step) d ss)
  kept_run [] d w h = kept_refl c d
  kept_run (s ∷ ss) d w h = kept_trans (first d s ss w h).kept (kept_run ss (step d s).after (then' d s ss w h) (calm-rest _ _ h))

  waits-run : (ss : List Step) (d : Domain) → Waits d → Calm (taken d ss) → Waits (ended (machine step) d ss)
  waits-run [] d w h = w
  waits-run (s ∷ ss) d w h = waits-run ss (step d s).after (then' d s ss w h) (calm-rest _ _ h)

  -- a process that leaves in them, or has its Q manages, has acted
  acted-run : (ss : List Step) (d : Domain) → Waits d → Calm (taken d ss) → (p : ℕ) → p < d.params.processes
      → (every (λ t. not (leaves p t)) (taken d ss) ≡ true → d.params.quiescence_threshold ≤ calls_of d p + count (manages p) (taken d ss))
      → Acted c d (ended (machine step) d ss) p
  acted-run [] d w h p hp q = absurd (omega (arith, q refl, (process-fits w.reached'.formed p hp).words.calls))
  acted-run (s ∷ ss) d w h p hp q =
      let m = first d s ss w h in
      let e = (step d s).after in
      by (m.acts p) m.kept (kept_run ss e (then' d s ss w h) (calm-rest _ _ h))
      (λ x. acted-run ss e (then' d s ss w h) (calm-rest _ _ h) p (rw m.kept.params hp) (λ v. rw m.kept.params (x v)))
    where
      same_turn : turn p (kind_of s.kind) s (step d s).refusal ≡ cond (eqb (step d s).refusal 0 && (eqb s.kind 12 && eqb s.process p)) 1 0
      same_turn = ap (λ b. cond (eqb (step d s).refusal 0 && (b && eqb s.process p)) 1 0) (sym (same_kind s.kind Manage refl))

      same_left : is_left p (kind_of s.kind) s (step d s).refusal ≡ (eqb (step d s).refusal 0 && (eqb s.kind 15 && eqb s.process p))
      same_left = ap (λ b. eqb (step d s).refusal 0 && (b && eqb s.process p)) (sym (same_kind s.kind Leave refl))

      by : Counted (kind_of s.kind) s (step d s).refusal d (step d s).after p ⊎ Acted c d (step d s).after p
          → Kept c d (step d s).after → Kept c (step d s).after (ended (machine step) d (s ∷ ss))
          → ((every (λ t. not (leaves p t)) (taken (step d s).after ss) ≡ true
          → d.params.quiescence_threshold ≤ calls_of (step d s).after p + count (manages p) (taken (step d s).after ss))
          → Acted c (step d s).after (ended (machine step) d (s ∷ ss)) p)
          → Acted c d (ended (machine step) d (s ∷ ss)) p
      by (inl x) k k' f =
          let a = f (λ v. omega (arith, same_turn, x.calls, q (rw (sym same_left ∙ x.stays) v))) in
          record {
            comes = λ z. a.comes (same-both k k' z).1;
            goes_on = λ o all z. let y = same-both k k' z in
                a.goes_on (o ∙ sym (ap (λ n. n.owner) k.node)) (λ u. k.same y.0 u (all u)) y.1;
          }
      by (inr a) k k' f =
          record {
            comes = λ z. let y = same-both k k' z in k'.same y.1 p (a.comes y.0);
            goes_on = λ o all z. a.goes_on o all (same-both k k' z).0;
          }

  -- ---- rounds

  owner-in : (d : Domain) → Waits d → is_present (process_of d (node_of d c).owner) ≡ true
  owner-in d w = owner-there d w.reached'.inv c w.retired

  -- where all have come to the global epoch, it has to go on
  not_yet : (d : Domain) → Waits d → ((p : ℕ) → AtGlobal d p) → distance d c ≢ 0
  not_yet d w all z = distance_none d.epoch _ (node_of d c).limbo z (all (node_of d c).owner (owner-in d w))

  -- how many rounds a node may still need
  abbrev Enough : ℕ → Domain → Type 0
  Enough n d = (2 * distance d c + 1 ≤ n) ⊎ (((p : ℕ) → AtGlobal d p) × (2 * distance d c ≤ n))

  -- what a round leaves of it
  module _ (d : Domain) (ss : List Step) (n : ℕ) (w : Waits d) (h : Calm (taken d ss))
      (r : is_round (record { start = d; transitions = taken d ss }) ≡ true) where
    abbrev e : Domain
    e = ended (machine step) d ss

    kept : Kept c d e
    kept = kept_run ss d w h

    enough-of : (p : ℕ) → p < d.params.processes → is_present_in (record { start = d; transitions = taken d ss }) p ≡ true
        → d.params.quiescence_threshold ≤ count (manages p) (taken d ss)
    enough-of p hp u = leb-true _ _ (implied _ _ (all-at _ _ p r hp) u)

    acted : (p : ℕ) → is_present (process_of d p) ≡ true → Acted c d e p
    acted p u =
        let there = inside (λ x. is_present x ≡ true) d.processes p no_process false≢true u in
        let hp : p < d.params.processes = rw (← w.reached'.formed.process_count) there in
        acted-run ss d w h p hp (λ v. omega (arith, enough-of p hp (rw u v)))

    -- whoever is absent need not come
    come : distance e c ≡ distance d c → (p : ℕ) → AtGlobal e p
    come z p = by (is_present (process_of d p)) refl
      where
        by : (b : Bool) → is_present (process_of d p) ≡ b → AtGlobal e p
        by true u = (acted p u).comes z
        by false u = kept.same z p (λ v. absurd (false≢true (sym u ∙ v)))

    round : Enough (suc n) d → Enough n e
    round = by (eqb (distance e c) (distance d c)) refl
      where
        by : (b : Bool) → eqb (distance e c) (distance d c) ≡ b → Enough (suc n) d → Enough n e
        by true z (inl x) = let q = eqb-true (distance e c) (distance d c) z in inr (come q, omega arith)
        by true z (inr a) = absurd ((acted (node_of d c).owner (owner-in d w)).goes_on refl a.0 (eqb-true (distance e c) (distance d c) z))
        by false z (inl x) = let q = eqb-false (distance e c) (distance d c) z in inl (omega (arith, kept.nearer))
        by false z (inr a) = let q = eqb-false (distance e c) (distance d c) z in inl (omega (arith, kept.nearer, a.1))

  -- rounds through which it waits
  record Lasts (xs : List Stretch) : Type 0 where
    rounds : every is_round xs ≡ true
    fast : always is_fast xs ≡ true
    stays : never (owner_leaves c) xs ≡ true
    kept : never (turns_free c) xs ≡ true

  lasts-first : (x : Stretch) (xs : List Stretch) → Lasts (x ∷ xs) → Calm x.transitions
  lasts-first x xs h = record { fast = (both _ _ h.fast).0; stays = (both _ _ h.stays).0; kept = (both _ _ h.kept).0 }

  lasts-rest : (x : Stretch) (xs : List Stretch) → Lasts (x ∷ xs) → Lasts xs
  lasts-rest x xs h =
      record {
        rounds = (both (is_round x) _ h.rounds).1;
        fast = (both (every is_fast x.transitions) _ h.fast).1;
        stays = (both (every (λ t. not (owner_leaves c t)) x.transitions) _ h.stays).1;
        kept = (both (every (λ t. not (turns_free c t)) x.transitions) _ h.kept).1;
      }

  -- not as many as are enough
  go : (rs : List (List Step)) (d : Domain) → Waits d → Lasts (stretches (machine step) d rs) → Enough (length rs) d → ⊥
  go [] d w x (inl n) = omega arith
  go [] d w x (inr a) = not_yet d w a.0 (omega (arith, a.1))
  go (ss ∷ rs) d w x n =
      let h = lasts-first _ _ x in
      go rs (ended (machine step) d ss) (waits-run ss d w h) (lasts-rest _ _ x) (round d ss (length rs) w h (both _ _ x.rounds).0 n)

freed_in_lem : (n : ℕ) (d : Domain) → Reached d → ((c : ℕ) → Waits c d → Enough c n d) → FreedInRounds (machine step) owner_leaves n d
freed_in_lem n d x few rounds c len r f s k =
    by (never (turns_free c) (stretches (machine step) d rounds)) refl
  where
    by : (b : Bool) → never (turns_free c) (stretches (machine step) d rounds) ≡ b → not b ≡ true
    by false e = refl
    by true e =
        let w : Waits c d = record { reached' = x; retired = k } in
        absurd (go c rounds d w (record { rounds = r; fast = f; stays = s; kept = e }) (rw len (few c w)))

-- twice the distance, and one
enough : (c n : ℕ) (d : Domain) → 7 ≤ n → Enough c n d
enough c n d h = inl (omega (arith, distance_most d.epoch (process_of d (node_of d c).owner).epoch (node_of d c).limbo))

pub seven-rounds-of-owner : SevenRoundsOfOwner
seven-rounds-of-owner a ss h = freed_in_lem _ (run (fresh a) ss) (reached a ss h) (λ c _. enough c _ (run (fresh a) ss) (omega arith))

-- where nobody comes or goes the owner does not leave
owner-stays : (r k j o : Bool) → not (r && (k || j)) ≡ true → not (r && (k && o)) ≡ true
owner-stays false k j o h = refl
owner-stays true true j o h = absurd (false≢true h)
owner-stays true false j o h = refl

pub seven-rounds : SevenRounds
seven-rounds a ss h rounds c len r f s =
    seven-rounds-of-owner a ss h rounds c len r f
    (every-follows _ _ (stretches (machine step) (run (fresh a) ss) rounds)
    (λ x. every-follows _ _ x.transitions (λ t. owner-stays (eqb t.refusal 0) (eqb t.step.kind 15) (eqb t.step.kind 16) _)) s)

-- at a distance of three the owner has come to the global epoch, and there is no other process
enough-alone : (c n : ℕ) (d : Domain) → 6 ≤ n → count is_present d.processes ≤ 1 → Waits c d → Enough c n d
enough-alone c n d h one w = by (eqb (distance d c) 3) refl
  where
    o : ℕ
    o = (node_of d c).owner

    all_there : distance d c ≡ 3 → (p : ℕ) → AtGlobal d p
    all_there far p u =
        ap (λ q. (process_of d q).epoch) (count-one is_present d.processes p o no_process refl one u (owner-in c d w))
        ∙ distance-three d.epoch (process_of d o).epoch (node_of d c).limbo far

    by : (b : Bool) → eqb (distance d c) 3 ≡ b → Enough c n d
    by true e = let far = eqb-true (distance d c) 3 e in inr (all_there far, omega arith)
    by false e =
        let near' = eqb-false (distance d c) 3 e in
        inl (omega (arith, distance_most d.epoch (process_of d (node_of d c).owner).epoch (node_of d c).limbo))

pub six-rounds : SixRounds
six-rounds a ss h one =
    freed_in_lem _ (run (fresh a) ss) (reached a ss h) (λ c. enough-alone c _ (run (fresh a) ss) (omega arith) (omega (arith, one)))
