-- A way through a step: what is to be shown of its outcome is shown of a refusal, and of its effect with every fact that leads there.
-- Assumes nothing.
use Prim.Native.Nat.{ℕ, ◌<◌}
use mathlib.Core.Bool.{Bool, true, false, not, ◌&&◌, ◌||◌, cond}
use mathlib.Core.List.{List, [], ◌∷◌}
use mathlib.Core.Path.{◌≡◌, refl, ◌∙◌, ap}
use mathlib.Core.Logic.{◌≢◌}
use borrow.Author.Tests.{eqb-true, eqb-false, ltb-true, not-true, eq-eqb, ne_eqb, lt-ltb}
use lib.ListN.{length, get_or}
use lib.Dec.{eqb}
use Rattle.lists.specs.Tests.{every}
use Rattle.lists.proofs.Facts.{every-at}
use Rattle.lists.proofs.Bools.{by_cond, both, implied, imply}
use Rattle.model.specs.Params.{buffer_size, last_clock}
use Rattle.model.specs.State.{Domain, Step, Reachable, Fast, Fallback, node_of, process_of, with_path}
use Rattle.model.specs.State.{with_epoch, acts, next_epoch}
use Rattle.model.specs.Kinds.{Kind, is, means, row_of, meets, Needed, Any, Exactly, ProcessId, HazardId}
use Rattle.model.specs.Kinds.{NodeId, Limit, Protect, Check, Use, Clear, Drain, Tick, Manage, Leave, Join}
use Rattle.model.specs.Kinds.{Unknown}
use Rattle.model.specs.Hazards.{here, pointer, target, young, unassigned}
use Rattle.model.specs.Retire.{Effect, effect, scan, overfull, fall_back, reclaim}
use Rattle.model.specs.Epochs.{caught_up, adopt, quiescent, all_checked_in, called_by, counted, manage}
use Rattle.model.specs.Questions.{Question, ask, first_no, present_for, questions, refusal_of}
use Rattle.model.specs.Leave.{unburdened, takes_over}
use Rattle.model.specs.Portion.{limit_in_range}
use Rattle.model.specs.Machine.{Outcome, refused, accepted, act, step_as}

-- what a yes to every question says
pub record Asked (k : Kind) (d : Domain) (s : Step) : Type 0 where
  pub known : is k Unknown ≡ false
  pub process : means (row_of k).process ProcessId ≡ true → s.process < d.params.processes
  pub present : means (row_of k).process ProcessId ≡ true → (here d s).present ≡ present_for k
  pub unburdened' : is k Leave ≡ true → unburdened d s.process ≡ true
  pub takes_over' : is k Leave ≡ true → takes_over d s.process s.node ≡ true
  pub hazard : means (row_of k).hazard HazardId ≡ true → s.hazard < d.params.hazards
  pub node : means (row_of k).node NodeId ≡ true → s.node < d.params.nodes
  pub limit : means (row_of k).guest Limit ≡ true → limit_in_range s.guest ≡ true
  pub state : (n : ℕ) → (row_of k).needs ≡ Exactly n → (node_of d s.node).state ≡ n
  pub owner : (row_of k).owns ≡ true → (node_of d s.node).owner ≡ s.process
  pub assigned : is k Check ≡ true → (pointer d s).assigned ≢ 0
  pub reachable : is k Check ≡ true → (target d s).state ≡ Reachable
  pub validated : is k Use ≡ true → (pointer d s).validated ≡ 1
  pub room : (is k Protect || is k Clear) ≡ true → length (here d s).buffer < buffer_size
  pub some' : is k Drain ≡ true → length (here d s).buffer ≢ 0
  pub clock : is k Tick ≡ true → d.clock < last_clock
  pub young' : is k Tick ≡ true → every (young d) d.processes ≡ true
  pub unassigned' : is k Manage ≡ true → unassigned (here d s) ≡ true

-- where no question has the number 0, no first no means all yes
pub all_yes : (qs : List Question) → every (λ q. not (eqb q.number 0)) qs ≡ true → first_no qs ≡ 0 → every (λ q. q.yes') qs ≡ true
all_yes [] n h = refl
all_yes (q ∷ qs) n h = by q.yes' h (all_yes qs (both (not (eqb q.number 0)) _ n).1)
  where
    by : (b : Bool) → cond b (first_no qs) q.number ≡ 0 → (first_no qs ≡ 0 → every (λ r. r.yes') qs ≡ true)
        → (b && every (λ r. r.yes') qs) ≡ true
    by true k f = f k
    by false k f = absurd (eqb-false q.number 0 (not-true _ (both (not (eqb q.number 0)) _ n).0) k)

first_no_lem : (qs : List Question) → every (λ q. q.yes') qs ≡ true → first_no qs ≡ 0
first_no_lem [] h = refl
first_no_lem (q ∷ qs) h = let b = both q.yes' _ h in rw b.0 (first_no_lem qs b.1)

pub state-met : (n : Needed) (k m : ℕ) → meets n m ≡ true → n ≡ Exactly k → m ≡ k
state-met n k m h e = eqb-true m k (rw e at h)

meet-state : (n : Needed) (m : ℕ) → ((k : ℕ) → n ≡ Exactly k → m ≡ k) → meets n m ≡ true
meet-state Any m f = refl
meet-state (Exactly k) m f = eq-eqb m k (f k refl)

differs : (m n : ℕ) → m ≢ n → not (eqb m n) ≡ true
differs m n h = rw (ne_eqb m n h)

module _ (k : Kind) (d : Domain) (s : Step) where
  -- the answer at place i of the list of questions
  yes-at : (i : ℕ) → refusal_of k d s ≡ 0 → (get_or (questions k d s) i (ask 0 true)).yes' ≡ true
  yes-at i e = every-at (λ q. q.yes') (questions k d s) i (ask 0 true) (all_yes (questions k d s) refl e) refl

  pub asked : refusal_of k d s ≡ 0 → Asked k d s
  asked e =
      record {
        known = not-true _ (yes-at 0 e);
        process = λ r. ltb-true _ _ (implied _ _ (yes-at 1 e) r);
        present = λ r. eqb-true _ _ (implied _ _ (yes-at 2 e) r);
        unburdened' = λ r. implied _ _ (yes-at 3 e) r;
        takes_over' = λ r. implied _ _ (yes-at 4 e) r;
        hazard = λ r. ltb-true _ _ (implied _ _ (yes-at 5 e) r);
        node = λ r. ltb-true _ _ (implied _ _ (yes-at 6 e) r);
        limit = λ r. implied _ _ (yes-at 7 e) r;
        state = λ n r. state-met _ n _ (yes-at 8 e) r;
        owner = λ r. eqb-true _ _ (implied _ _ (yes-at 9 e) r);
        assigned = λ r. eqb-false _ _ (not-true _ (implied _ _ (yes-at 10 e) r));
        reachable = λ r. eqb-true _ _ (implied _ _ (yes-at 11 e) r);
        validated = λ r. eqb-true _ _ (implied _ _ (yes-at 12 e) r);
        room = λ r. ltb-true _ _ (implied _ _ (yes-at 13 e) r);
        some' = λ r. eqb-false _ _ (not-true _ (implied _ _ (yes-at 14 e) r));
        clock = λ r. ltb-true _ _ (implied _ _ (yes-at 15 e) r);
        young' = λ r. implied _ _ (yes-at 16 e) r;
        unassigned' = λ r. implied _ _ (yes-at 17 e) r;
      }

  -- and back: a step of which all this holds is accepted
  pub not-refused : Asked k d s → refusal_of k d s ≡ 0
  not-refused a =
      first_no_lem (questions k d s)
      (rw (
        a.known,
        imply _ _ (λ r. lt-ltb _ _ (a.process r)),
        imply _ _ (λ r. eq-eqb _ _ (a.present r)),
        imply _ _ a.unburdened',
        imply _ _ a.takes_over',
        imply _ _ (λ r. lt-ltb _ _ (a.hazard r)),
        imply _ _ (λ r. lt-ltb _ _ (a.node r)),
        imply _ _ a.limit,
        meet-state _ _ a.state,
        imply _ _ (λ r. eq-eqb _ _ (a.owner r)),
        imply _ _ (λ r. differs _ _ (a.assigned r)),
        imply _ _ (λ r. eq-eqb _ _ (a.reachable r)),
        imply _ _ (λ r. eq-eqb _ _ (a.validated r)),
        imply _ _ (λ r. lt-ltb _ _ (a.room r)),
        imply _ _ (λ r. differs _ _ (a.some' r)),
        imply _ _ (λ r. lt-ltb _ _ (a.clock r)),
        imply _ _ a.young',
        imply _ _ a.unassigned',
      ))

  -- whoever takes a step that is no join is present
  pub acting : Asked k d s → means (row_of k).process ProcessId ≡ true → is k Join ≡ false → acts (here d s) ≡ true
  acting a r e = eq-eqb _ 1 (a.present r ∙ ap (λ b. cond b 0 1) e)

  pub by-step : (P : Outcome → Type 0) → ((n : ℕ) → n ≢ 0 → P (refused n d)) → (Asked k d s → P (accepted (act k d s)))
      → P (step_as k d s)
  by-step P no' f =
      by_cond P (eqb (refusal_of k d s) 0) (λ e. f (asked (eqb-true _ _ e))) (λ e. no' _ (eqb-false _ _ e))

-- ---- the branches of a retire and of a manage

pub by-reclaim : (P : Effect → Type 0) (d : Domain) (p : ℕ)
    → (d.path ≡ Fallback → P (scan d p))
    → (d.path ≢ Fallback → overfull d p ≡ true → P (scan (fall_back d) p))
    → (d.path ≢ Fallback → overfull d p ≡ false → P (effect 0 d))
    → P (reclaim d p)
by-reclaim P d p back over' under =
    by_cond P (eqb d.path Fallback) (λ e. back (eqb-true _ _ e)) (λ e.
    by_cond P (overfull d p) (over' (eqb-false _ _ e)) (under (eqb-false _ _ e)))

pub by-quiescent : (P : Effect → Type 0) (d : Domain) (p : ℕ)
    → ((process_of d p).epoch ≡ d.epoch → caught_up d ≡ true → P (effect 0 (with_epoch d (next_epoch d.epoch))))
    → ((process_of d p).epoch ≡ d.epoch → caught_up d ≡ false → P (effect 0 d))
    → ((process_of d p).epoch ≢ d.epoch → P (adopt d p))
    → P (quiescent d p)
by-quiescent P d p on' stay behind =
    by_cond P (eqb (process_of d p).epoch d.epoch) (λ e.
    by_cond P (caught_up d) (on' (eqb-true _ _ e)) (stay (eqb-true _ _ e))) (λ e. behind (eqb-false _ _ e))

pub by-manage : (P : Effect → Type 0) (d : Domain) (s : Step)
    → (called_by d s ≡ 0 → d.path ≡ Fallback → all_checked_in (counted d s 0 1) ≡ true
    → P (quiescent (with_path (counted d s 0 1) Fast) s.process))
    → (called_by d s ≡ 0 → d.path ≡ Fallback → all_checked_in (counted d s 0 1) ≡ false → P (effect 0 (counted d s 0 1)))
    → (called_by d s ≡ 0 → d.path ≢ Fallback → P (quiescent (counted d s 0 1) s.process))
    → (called_by d s ≢ 0 → P (effect 0 (counted d s (called_by d s) (here d s).presence)))
    → P (manage d s)
by-manage P d s back wait fast idle =
    by_cond P (eqb (called_by d s) 0) (λ c.
    by_cond P (eqb d.path Fallback) (λ e.
    by_cond P (all_checked_in (counted d s 0 1)) (back (eqb-true _ _ c) (eqb-true _ _ e)) (wait (eqb-true _ _ c) (eqb-true _ _ e)))
    (λ e. fast (eqb-true _ _ c) (eqb-false _ _ e)))
    (λ c. idle (eqb-false _ _ c))
