-- E is nothing but a longer T: a step reads the two only as their sum, and the domain with the sum is well formed. Assumes nothing.
use Prim.Native.Nat.{ℕ, suc, ◌+◌, ◌-◌, ◌*◌, ◌≤◌, max}
use mathlib.Core.Bool.{◌&&◌, cond}
use mathlib.Core.List.{List, [], ◌∷◌, map}
use mathlib.Core.Path.{◌≡◌, refl, ap, ◌∙◌}
use native.Mathlib.Omega.{arith}
use lib.Dec.{ltb, eqb}
use Rattle.lists.specs.Tests.{every, count, implies, lacks}
use Rattle.lists.proofs.Bools.{through-cond}
use Rattle.lists.proofs.Facts.{all_map}
use Rattle.model.specs.Params.{Params, most_ticks, delay}
use Rattle.model.specs.State.{Pending, Hazard, Process, Node, Domain, Step, Fast, Fallback, process_of, with_path}
use Rattle.model.specs.WellFormed.{NodeFits, HazardFits, PendingFits, ProcessFits, WellFormed}
use Rattle.model.specs.Kinds as K
use Rattle.model.specs.Kinds.{Kind, is, kind_of}
use Rattle.model.specs.Retire.{Effect, effect, retired_by, visible_to, within, freeing, partial_scan, marked, scan}
use Rattle.model.specs.Retire.{overfull, fall_back, reclaim}
use Rattle.model.specs.Epochs.{caught_up, adopt, quiescent, all_checked_in, managing, called_by, counted, manage}
use Rattle.model.specs.Hazards.{here, young}
use Rattle.model.specs.Questions.{ask, first_no, questions, refusal_of}
use Rattle.model.specs.Machine.{Outcome, act, answered, step, run}
use Rattle.model.specs.Claims.{retired_since, merged, punctual, punctually, LatenessIsDelay, LatenessInBound}
use Rattle.model.specs.Claims.{NoLateness}

-- what a step does, with those parameters
abbrev punctual_effect : Effect → Effect
punctual_effect e = effect e.value (punctual e.after)

-- T + E + 0 is T + E
same-delay : (a : Params) → delay (merged a) ≡ delay a
same-delay a = omega arith

partial-punctual : (d : Domain) (p a b : ℕ) → partial_scan (punctual d) p a b ≡ punctual_effect (partial_scan d p a b)
partial-punctual d p a b =
    λ t. freeing (punctual d)
    (λ c n. within a b c
    && (retired_by p n && (ltb (same-delay d.params t) (d.clock - n.retired_at) && lacks (visible_to d p) (suc c))))

scan-punctual : (d : Domain) (p : ℕ) → scan (punctual d) p ≡ punctual_effect (scan d p)
scan-punctual d p = partial-punctual d p 0 d.params.nodes

same-refusal : (k : Kind) (d : Domain) (s : Step) → refusal_of k (punctual d) s ≡ refusal_of k d s
same-refusal k d s =
    λ t. first_no (map (λ q. cond (eqb q.number 16) (ask 16 (implies (is k K.Tick) (young-then t))) q) (questions k d s))
  where
    young-then : every (young (punctual d)) d.processes ≡ every (young d) d.processes
    young-then = λ t. every (λ x. every (λ e. ltb (d.clock - e.time) (same-delay d.params t)) x.buffer) d.processes

reclaim-punctual : (d : Domain) (p : ℕ) → reclaim (punctual d) p ≡ punctual_effect (reclaim d p)
reclaim-punctual d p =
    (λ t. cond (eqb d.path Fallback) (scan-punctual d p t)
    (cond (overfull d p) (scan-punctual (fall_back d) p t) (effect 0 (punctual d))))
    ∙ ap (λ (e : Effect). cond (eqb d.path Fallback) (punctual_effect (scan d p)) e) (through-cond punctual_effect (overfull d p) _ _)
    ∙ through-cond punctual_effect (eqb d.path Fallback) _ _

quiescent-punctual : (d : Domain) (p : ℕ) → quiescent (punctual d) p ≡ punctual_effect (quiescent d p)
quiescent-punctual d p =
    ap (λ (e : Effect). cond (eqb (process_of d p).epoch d.epoch) e (punctual_effect (adopt d p))) (through-cond punctual_effect (caught_up d) _ _)
    ∙ through-cond punctual_effect (eqb (process_of d p).epoch d.epoch) _ _

managing-punctual : (d : Domain) (p : ℕ) → managing (punctual d) p ≡ punctual_effect (managing d p)
managing-punctual d p =
    let inner = ap (λ (e : Effect). cond (all_checked_in d) e (effect 0 (punctual d))) (quiescent-punctual (with_path d Fast) p)
    ∙ through-cond punctual_effect (all_checked_in d) _ _ in
    (λ t. cond (eqb d.path Fallback) (inner t) (quiescent-punctual d p t))
    ∙ through-cond punctual_effect (eqb d.path Fallback) _ _

manage-punctual : (d : Domain) (s : Step) → manage (punctual d) s ≡ punctual_effect (manage d s)
manage-punctual d s =
    ap (λ (e : Effect). cond (eqb (called_by d s) 0) e (effect 0 (punctual (counted d s (called_by d s) (here d s).presence))))
    (managing-punctual (counted d s 0 1) s.process)
    ∙ through-cond punctual_effect (eqb (called_by d s) 0) _ _

act-punctual : (k : Kind) (d : Domain) (s : Step) → act k (punctual d) s ≡ punctual_effect (act k d s)
act-punctual K.Allocate d s = refl
act-punctual K.Publish d s = refl
act-punctual K.Protect d s = refl
act-punctual K.Check d s = refl
act-punctual K.Use d s = refl
act-punctual K.Clear d s = refl
act-punctual K.Remove d s = refl
act-punctual K.Retire d s = reclaim-punctual (marked d s) s.process
act-punctual K.Drain d s = refl
act-punctual K.Flush d s = refl
act-punctual K.Tick d s = refl
act-punctual K.Manage d s = manage-punctual d s
act-punctual K.ClearPresence d s = refl
act-punctual K.Reinsert d s = refl
act-punctual K.Leave d s = refl
act-punctual K.Join d s = refl
act-punctual K.Portion d s = partial-punctual d s.process s.node _
act-punctual K.Unknown d s = refl

step-punctual : (d : Domain) (s : Step) → step (punctual d) s ≡ punctually (step d s)
unfolding step
step-punctual d s =
    let k : Kind = kind_of s.kind in
    (λ t. answered (same-refusal k d s t) (punctual d) (act-punctual k d s t))
    ∙ through-cond punctually (eqb (refusal_of k d s) 0) _ _

run-punctual : (d : Domain) (ss : List Step) → run (punctual d) ss ≡ punctual (run d ss)
run-punctual d [] = refl
run-punctual d (s ∷ ss) = ap (λ (o : Outcome). run o.after ss) (step-punctual d s) ∙ run-punctual (step d s).after ss

pub lateness-is-delay : LatenessIsDelay
lateness-is-delay d ss s = ap (λ (x : Domain). step x s) (run-punctual d ss) ∙ step-punctual (run d ss) s

pub lateness-in-bound : LatenessInBound
lateness-in-bound a h p =
    λ t. max (a.fallback_threshold - 1)
    (a.processes * a.hazards + count (retired_since p (h.ticks - same-delay a t)) h.retirements)

pub no-lateness : NoLateness
no-lateness a e = omega arith

-- ---- and it is well formed, if T + E is in the range of T

module _ (d : Domain) (room : delay d.params ≤ most_ticks) where
  abbrev a : Params
  a = d.params

  node_fits_lem : (n : Node) → NodeFits a d.clock n → NodeFits (merged a) d.clock n
  node_fits_lem n f =
      record {
        state = f.state;
        owner = f.owner;
        retired_at = f.retired_at;
        limbo = f.limbo;
        free = f.free;
        reachable = f.reachable;
        unretired = f.unretired;
      }

  hazard_fits_lem : (h : Hazard) → HazardFits a h → HazardFits (merged a) h
  hazard_fits_lem h f = record { visible = f.visible; assigned = f.assigned; validated = f.validated; claimed = f.claimed }

  pending-fits : (e : Pending) → PendingFits a d.clock e → PendingFits (merged a) d.clock e
  pending-fits e f = record { hazard = f.hazard; node = f.node; time = f.time }

  process-fits : (x : Process) → ProcessFits a d.clock x → ProcessFits (merged a) d.clock x
  process-fits x f =
      let w = f.words in
      let s = f.stores in
      record {
        words = record { epoch = w.epoch; calls = w.calls; presence = w.presence; present = w.present };
        stores = record {
          room = s.room;
          width = s.width;
          buffer = all_map (PendingFits a d.clock) (PendingFits (merged a) d.clock) x.buffer pending-fits s.buffer;
          hazards = all_map (HazardFits a) (HazardFits (merged a)) x.hazards hazard_fits_lem s.hazards;
        };
      }

  pub well-punctual : WellFormed d → WellFormed (punctual d)
  well-punctual f =
      let r = f.params in
      record {
        params = record {
          processes = r.processes;
          hazards = r.hazards;
          nodes = r.nodes;
          visibility_bound = omega (arith, r.visibility_bound);
          quiescence_threshold = r.quiescence_threshold;
          fallback_threshold = r.fallback_threshold;
          lateness = omega arith;
        };
        clock = f.clock;
        path = f.path;
        epoch = f.epoch;
        process_count = f.process_count;
        node_count = f.node_count;
        processes = all_map (ProcessFits a d.clock) (ProcessFits (merged a) d.clock) d.processes process-fits f.processes;
        nodes = all_map (NodeFits a d.clock) (NodeFits (merged a) d.clock) d.nodes node_fits_lem f.nodes;
      }
