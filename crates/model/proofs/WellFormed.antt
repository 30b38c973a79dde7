-- A fresh domain is well formed, and each step keeps it so. Assumes nothing.
use Prim.Native.Nat.{ℕ, suc, ◌+◌, ◌<◌, ◌≤◌}
use mathlib.Core.Bool.{Bool}
use mathlib.Core.List.{List, [], ◌∷◌, ◌++◌, map}
use mathlib.Core.Path.{◌≡◌, refl, ◌∙◌}
use mathlib.Core.Logic.{◌≢◌}
use native.Mathlib.Omega.{arith}
use native.Mathlib.Nat.{mod-lt}
use lib.ListN.{length, length-set, length-append, length-map, length-replicate}
use Rattle.lists.specs.Tests.{All}
use Rattle.lists.proofs.Facts.{all-at, all_set, all_snoc, all_replicate, all-sweep, all_map, all-through}
use Rattle.lists.proofs.Bools.{by_cond}
use Rattle.lists.proofs.Sweeps.{sweep-length}
use Rattle.model.specs.Params.{Params, InRange, buffer_size, last_clock}
use Rattle.model.specs.State.{Pending, Hazard, Process, Node, Domain, Step, Fast, Fallback, free_node, Retired}
use Rattle.model.specs.State.{empty_hazard, no_process, node_of, process_of, hazard_of, with_nodes, with_path}
use Rattle.model.specs.State.{with_epoch}
use Rattle.model.specs.State.{with_clock, set_node, set_process, with_stores, with_words, with_present, set_hazard}
use Rattle.model.specs.State.{next_epoch}
use Rattle.model.specs.State.{without_presence, clear_presence}
use Rattle.model.specs.WellFormed.{NodeFits, HazardFits, PendingFits, ProcessFits, WellFormed}
use Rattle.model.specs.Kinds.{Kind, kind_of, Allocate, Publish, Protect, Check, Use, Clear, Remove, Retire}
use Rattle.model.specs.Kinds.{Drain, Flush, Tick, Manage, ClearPresence, Reinsert, Leave, Join, Portion}
use Rattle.model.specs.Kinds.{Unknown}
use Rattle.model.specs.Hazards.{here, pending, assigning, validating, committing, drained, flushed}
use Rattle.model.specs.Retire.{retired_by, freeing, marked, retiring}
use Rattle.model.specs.Epochs.{expired, quiescent, called_by, counted}
use Rattle.model.specs.Leave.{handed, hand_over, join}
use Rattle.model.specs.Machine.{act, step, fresh, allocating, publishing, removing}
use Rattle.model.specs.Claims.{StepWellFormed, FreshWellFormed}
use Rattle.model.proofs.Walk.{Asked, by-step, by-reclaim, by-quiescent, by-manage}
use Rattle.model.proofs.Handed.{heir}

-- what a node and a process of a domain must be
abbrev NodeIn : Domain → Node → Type 0
NodeIn d = NodeFits d.params d.clock

abbrev ProcessIn : Domain → Process → Type 0
ProcessIn d = ProcessFits d.params d.clock

free-fits : {a : Params} {clock : ℕ} → InRange a → NodeFits a clock free_node
free-fits r = omega arith

-- ---- A process: other words, other stores

module _ {a : Params} {clock : ℕ} {x : Process} (f : ProcessFits a clock x) where
  pub fits-words : (e k v : ℕ) → e ≤ 2 → k < a.quiescence_threshold → v ≤ 1 → ProcessFits a clock (with_words x e k v)
  fits-words e k v he hk hv =
      let o = f.stores in
      record {
        words = record { epoch = he; calls = hk; presence = hv; present = f.words.present };
        stores = record { room = o.room; width = o.width; buffer = o.buffer; hazards = o.hazards };
      }

  pub fits-present : (t : ℕ) → t ≤ 1 → ProcessFits a clock (with_present x t)
  fits-present t h =
      let o = f.words in
      record {
        words = record { epoch = o.epoch; calls = o.calls; presence = o.presence; present = h };
        stores = record {
          room = f.stores.room;
          width = f.stores.width;
          buffer = f.stores.buffer;
          hazards = f.stores.hazards;
        };
      }

  -- a hazard at place h, and any buffer
  fits-stores : (b : List Pending) (h : ℕ) (y : Hazard) → length b ≤ buffer_size → All (PendingFits a clock) b → HazardFits a y
      → ProcessFits a clock (with_stores x b (set_hazard x h y))
  fits-stores b h y room buffer new =
      let o = f.words in
      record {
        words = record { epoch = o.epoch; calls = o.calls; presence = o.presence; present = o.present };
        stores = record {
          room = room;
          width = length-set x.hazards h y ∙ f.stores.width;
          buffer = buffer;
          hazards = all_set (HazardFits a) x.hazards h y f.stores.hazards new;
        };
      }

  hazard_fits_lem : (h : ℕ) → h < a.hazards → HazardFits a (hazard_of x h)
  hazard_fits_lem h l = all-at (HazardFits a) x.hazards h empty_hazard f.stores.hazards (rw f.stores.width l)

  fits-without-presence : ProcessFits a clock (without_presence x)
  fits-without-presence = let o = f.words in fits-words _ _ 0 o.epoch o.calls (omega arith)

  fits-assigning : (h v : ℕ) → h < a.hazards → v ≤ a.nodes → length x.buffer < buffer_size
      → ProcessFits a clock (assigning x h v clock)
  fits-assigning h v l m room =
      let o = hazard_fits_lem h l in
      fits-stores (x.buffer ++ (pending h v clock ∷ [])) h _ (simp length-append (omega arith))
      (all_snoc (PendingFits a clock) x.buffer (pending h v clock) f.stores.buffer (omega arith)) (omega arith)

  fits-validating : (h : ℕ) → h < a.hazards → (hazard_of x h).assigned ≢ 0 → ProcessFits a clock (validating x h)
  fits-validating h l n =
      let o = hazard_fits_lem h l in fits-stores x.buffer h _ f.stores.room f.stores.buffer (omega arith)

  fits-committing : (e : Pending) (b : List Pending) → x.buffer ≡ e ∷ b → ProcessFits a clock (committing x e b)
  fits-committing e b q =
      let all : All (PendingFits a clock) (e ∷ b) = rw q at f.stores.buffer in
      let room : length (e ∷ b) ≤ buffer_size = rw q at f.stores.room in
      let o = hazard_fits_lem e.hazard all.0.hazard in
      fits-stores b e.hazard _ (omega arith) all.1
      (record { visible = all.0.node; assigned = o.assigned; validated = o.validated; claimed = o.claimed })

module _ {a : Params} {clock : ℕ} where
  fits-drained : (x : Process) (b : List Pending) → x.buffer ≡ b → ProcessFits a clock x → ProcessFits a clock (drained x b)
  fits-drained x [] q f = f
  fits-drained x (e ∷ b) q f = fits-committing f e b q

  fits-flushed : (x : Process) (b : List Pending) → x.buffer ≡ b → ProcessFits a clock x → ProcessFits a clock (flushed x b)
  fits-flushed x [] q f = f
  fits-flushed x (e ∷ b) q f = fits-flushed (committing x e b) b refl (fits-committing f e b q)

  -- ---- A tick: what fits now fits later

  later-node : (n : Node) → NodeFits a clock n → NodeFits a (clock + 1) n
  later-node n f =
      record {
        state = f.state;
        owner = f.owner;
        retired_at = omega arith;
        limbo = f.limbo;
        free = f.free;
        reachable = f.reachable;
        unretired = f.unretired;
      }

  later-process : (x : Process) → ProcessFits a clock x → ProcessFits a (clock + 1) x
  later-process x f =
      let o = f.stores in
      record {
        words = f.words;
        stores = record {
          room = o.room;
          width = o.width;
          buffer = all_map (PendingFits a clock) (PendingFits a (clock + 1)) x.buffer (λ e q. omega arith) o.buffer;
          hazards = o.hazards;
        };
      }

-- ---- Stores into a domain

module _ {d : Domain} (w : WellFormed d) where
  pub node_fits_lem : (c : ℕ) → c < d.params.nodes → NodeIn d (node_of d c)
  node_fits_lem c l = all-at (NodeIn d) d.nodes c free_node w.nodes (rw w.node_count l)

  pub process-fits : (p : ℕ) → p < d.params.processes → ProcessIn d (process_of d p)
  process-fits p l = all-at (ProcessIn d) d.processes p no_process w.processes (rw w.process_count l)

  -- another path and epoch, and other processes and nodes, as many as before
  keep : {v e : ℕ} {ps : List Process} {ns : List Node} → v ≤ 1 → e ≤ 2
      → length ps ≡ length d.processes → All (ProcessIn d) ps → length ns ≡ length d.nodes → All (NodeIn d) ns
      → WellFormed (record { params = d.params; clock = d.clock; path = v; epoch = e; processes = ps; nodes = ns })
  keep path epoch many processes more nodes =
      record {
        params = w.params;
        clock = w.clock;
        path = path;
        epoch = epoch;
        process_count = many ∙ w.process_count;
        node_count = more ∙ w.node_count;
        processes = processes;
        nodes = nodes;
      }

  pub keep-path : (v : ℕ) → v ≤ 1 → WellFormed (with_path d v)
  keep-path v h = keep h w.epoch refl w.processes refl w.nodes

  pub keep-epoch : WellFormed (with_epoch d (next_epoch d.epoch))
  keep-epoch = keep w.path (omega arith) refl w.processes refl w.nodes

  pub keep-node : (c : ℕ) (n : Node) → NodeIn d n → WellFormed (set_node d c n)
  keep-node c n f =
      keep w.path w.epoch refl w.processes (length-set d.nodes c n) (all_set (NodeIn d) d.nodes c n w.nodes f)

  pub keep-freeing : (f : ℕ → Node → Bool) → WellFormed (freeing d f).after
  keep-freeing f =
      keep w.path w.epoch refl w.processes (sweep-length free_node f 0 d.nodes)
      (all-sweep (NodeIn d) free_node f 0 d.nodes (free-fits w.params) w.nodes)

  pub keep-process : (p : ℕ) (x : Process) → ProcessIn d x → WellFormed (set_process d p x)
  keep-process p x f =
      keep w.path w.epoch (length-set d.processes p x) (all_set (ProcessIn d) d.processes p x w.processes f)
      refl w.nodes

  -- each node changed
  keep-each : (f : Node → Node) → ((n : Node) → NodeIn d n → NodeIn d (f n)) → WellFormed (with_nodes d (map f d.nodes))
  keep-each f g =
      keep w.path w.epoch refl w.processes (length-map d.nodes f) (all-through (NodeIn d) f d.nodes g w.nodes)

  pub keep-presence : WellFormed (clear_presence d)
  keep-presence =
      keep w.path w.epoch (length-map d.processes without_presence)
      (all-through (ProcessIn d) without_presence d.processes (λ x f. fits-without-presence f) w.processes) refl w.nodes

  pub keep-clock : d.clock < last_clock → WellFormed (with_clock d (d.clock + 1))
  keep-clock l =
      record {
        params = w.params;
        clock = omega arith;
        path = w.path;
        epoch = w.epoch;
        process_count = w.process_count;
        node_count = w.node_count;
        processes = all_map (ProcessIn d) _ d.processes later-process w.processes;
        nodes = all_map (NodeIn d) _ d.nodes later-node w.nodes;
      }

-- ---- The steps

keep-quiescent : {d : Domain} → WellFormed d → (p : ℕ) → p < d.params.processes → WellFormed (quiescent d p).after
keep-quiescent {d} w p l =
    let o = (process-fits w p l).words in
    by-quiescent (λ e. WellFormed e.after) d p (λ _ _. keep-epoch w) (λ _ _. w)
    (λ _. keep-process (keep-freeing w (expired d p)) p _ (fits-words (process-fits w p l) _ _ _ w.epoch o.calls o.presence))

-- a node marked Retired, and a manage counted
pub keep-marked : {d : Domain} → WellFormed d → (s : Step) → s.process < d.params.processes → s.node < d.params.nodes
    → WellFormed (marked d s)
keep-marked {d} w s l h =
    let n = node_fits_lem w s.node h in
    let o = (process-fits w s.process l).words in
    keep-node w s.node (retiring d.clock (here d s).epoch (node_of d s.node)) (omega arith)

pub keep-counted : {d : Domain} → WellFormed d → (s : Step) → s.process < d.params.processes → (k v : ℕ)
    → k < d.params.quiescence_threshold → v ≤ 1 → WellFormed (counted d s k v)
keep-counted w s l k v hk hv =
    let f = process-fits w s.process l in
    keep-process w s.process _ (fits-words f _ k v f.words.epoch hk hv)

-- a node that is not Retired is published or put back
keep-published : {d : Domain} → WellFormed d → (c : ℕ) → c < d.params.nodes → (node_of d c).state ≢ Retired
    → WellFormed (set_node d c (publishing (node_of d c)))
keep-published {d} w c h z =
    let n = node_fits_lem w c h in keep-node w c (publishing (node_of d c)) (omega (arith, w.params, n.unretired z))

-- nodes handed over to another process, and the leaver gone
pub keep-handed : {d : Domain} → WellFormed d → (p q : ℕ) → q < d.params.processes → WellFormed (hand_over d p q)
keep-handed {d} w p q l =
    let o = (process-fits w q l).words in
    keep-each w (handed p q d.clock (process_of d q).epoch) λ n f.
    by_cond (NodeIn d) (retired_by p n) (λ _. omega arith) (λ _. f)

pub keep_left : {d : Domain} → WellFormed d → (p : ℕ) → p < d.params.processes → WellFormed (set_process d p (with_present (with_words (process_of d p) 0 0 0) 0))
keep_left w p l =
    keep-process w p _
    (fits-present (fits-words (process-fits w p l) 0 0 0 (omega arith) w.params.quiescence_threshold.0 (omega arith)) 0 (omega arith))

pub keep-joined : {d : Domain} → WellFormed d → (p : ℕ) → p < d.params.processes → WellFormed (join d p)
keep-joined w p l =
    let f = process-fits w p l in
    keep-process w p _ (fits-present (fits-words f _ _ _ w.epoch f.words.calls f.words.presence) 1 (omega arith))

pub keep-act : (k : Kind) (d : Domain) (s : Step) → WellFormed d → Asked k d s → WellFormed (act k d s).after
keep-act Allocate d s w a = keep-node w s.node (allocating s) (omega (arith, a.process refl))
keep-act Publish d s w a = keep-published w s.node (a.node refl) (omega (arith, a.state _ refl))
keep-act Protect d s w a =
    keep-process w s.process _
    (fits-assigning (process-fits w s.process (a.process refl)) s.hazard (suc s.node) (a.hazard refl) (a.node refl)
    (a.room refl))
keep-act Check d s w a =
    keep-process w s.process _
    (fits-validating (process-fits w s.process (a.process refl)) s.hazard (a.hazard refl) (a.assigned refl))
keep-act Use d s w a = w
keep-act Clear d s w a =
    keep-process w s.process _
    (fits-assigning (process-fits w s.process (a.process refl)) s.hazard 0 (a.hazard refl) (omega arith) (a.room refl))
keep-act Remove d s w a =
    let n = node_fits_lem w s.node (a.node refl) in
    keep-node w s.node (removing s.process (node_of d s.node))
    (omega (arith, a.process refl, n.unretired (omega (arith, a.state _ refl))))
keep-act Retire d s w a =
    let m = keep-marked w s (a.process refl) (a.node refl) in
    by-reclaim (λ e. WellFormed e.after) (marked d s) s.process (λ _. keep-freeing m _)
    (λ _ _. keep-freeing (keep-presence (keep-path m Fallback (omega arith))) _) (λ _ _. m)
keep-act Drain d s w a =
    keep-process w s.process _
    (fits-drained (here d s) (here d s).buffer refl (process-fits w s.process (a.process refl)))
keep-act Flush d s w a =
    keep-process w s.process _
    (fits-flushed (here d s) (here d s).buffer refl (process-fits w s.process (a.process refl)))
keep-act Tick d s w a = keep-clock w (a.clock refl)
keep-act Manage d s w a =
    let p = s.process in
    let l = a.process refl in
    let some' = w.params.quiescence_threshold.0 in
    let called = keep-counted w s l 0 1 some' (omega arith) in
    by-manage (λ e. WellFormed e.after) d s
    (λ _ _ _. keep-quiescent (keep-path called Fast (omega arith)) p l) (λ _ _ _. called) (λ _ _. keep-quiescent called p l)
    (λ _. keep-counted w s l (called_by d s) (here d s).presence (mod-lt ((here d s).calls + 1) some') (process-fits w p l).words.presence)
keep-act ClearPresence d s w a = keep-presence w
keep-act Reinsert d s w a = keep-published w s.node (a.node refl) (omega (arith, a.state _ refl))
keep-act Leave d s w a =
    keep_left (keep-handed w s.process s.node (heir d s.process s.node (a.takes_over' refl)).below) s.process (a.process refl)
keep-act Join d s w a = keep-joined w s.process (a.process refl)
keep-act Portion d s w a = keep-freeing w _
keep-act Unknown d s w a = w

pub well-formed-step : StepWellFormed
unfolding step
well-formed-step d s w =
    by-step (kind_of s.kind) d s (λ o. WellFormed o.after) (λ _ _. w) (keep-act (kind_of s.kind) d s w)

pub well-formed-fresh : FreshWellFormed
unfolding fresh
well-formed-fresh a r =
    record {
      params = r;
      clock = omega arith;
      path = omega arith;
      epoch = omega arith;
      process_count = length-replicate _ _;
      node_count = length-replicate _ _;
      processes = all_replicate (ProcessFits a 0) a.processes _
          (record {
            words = omega arith;
            stores = record {
              room = omega arith;
              width = length-replicate _ _;
              buffer = tt;
              hazards = all_replicate (HazardFits a) a.hazards empty_hazard (omega arith);
            };
          });
      nodes = all_replicate (NodeFits a 0) a.nodes free_node (free-fits r);
    }
