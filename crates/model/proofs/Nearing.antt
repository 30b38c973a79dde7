-- A Retired node and how far it is from being freed: what steps keep of it, what a manage that acts does for it, and steps that leave both as
-- they were. Assumes nothing.
use Prim.Native.Nat.{ℕ, ◌+◌, ◌≤◌}
use mathlib.Core.Bool.{Bool, true, false, ◌&&◌, cond}
use mathlib.Core.List.{List, [], ◌∷◌}
use mathlib.Core.Path.{◌≡◌, refl, sym, ◌∙◌, ap}
use mathlib.Core.Logic.{◌≢◌, ◌⊎◌, inl}
use native.Mathlib.Omega.{arith}
use native.Mathlib.Nat.{zero-add}
use borrow.Author.Tests.{eqb-true, eqb-false, ne_eqb}
use lib.ListN.{get_or, set, get_or-map}
use lib.Dec.{eqb}
use Rattle.lists.specs.Sweep.{sweep_from}
use Rattle.lists.proofs.Stores.{set_keeps}
use Rattle.lists.proofs.Sweeps.{sweep-at, sweep-is}
use Rattle.model.specs.State.{Pending, Process, Node, Domain, Step, Free, Retired, no_process, free_node}
use Rattle.model.specs.State.{node_of, process_of, set_process, in_epochs, without_presence, clear_presence}
use Rattle.model.specs.Kinds.{Kind, is, Manage, Leave}
use Rattle.model.specs.Hazards.{committing, drained, flushed}
use Rattle.model.specs.Retire.{effect}
use Rattle.model.specs.Machine.{Outcome, accepted, refused}
use Rattle.model.proofs.Invariant.{Inv}
use Rattle.model.proofs.Distance.{distance}

-- process p has come to the global epoch, if it is present
abbrev pub AtGlobal : Domain → ℕ → Type 0
AtGlobal d p = in_epochs (process_of d p) ≡ true → (process_of d p).epoch ≡ d.epoch

abbrev pub calls_of : Domain → ℕ → ℕ
calls_of d p = (process_of d p).calls

-- by O
pub owner-there : (d : Domain) → Inv d → (c : ℕ) → (node_of d c).state ≡ Retired → in_epochs (process_of d (node_of d c).owner) ≡ true
owner-there d i c r = i.owners c (omega arith)

-- what steps keep while node c stays Retired: where it comes no closer, whoever had come to the global epoch still has
pub record Kept (c : ℕ) (d d' : Domain) : Type 0 where
  pub node : node_of d' c ≡ node_of d c
  pub params : d'.params ≡ d.params
  pub nearer : distance d' c ≤ distance d c
  pub same : distance d' c ≡ distance d c → (p : ℕ) → AtGlobal d p → AtGlobal d' p

-- what a manage of p that acts does: it brings p to the global epoch or c closer, and c closer where all have come there. The second is of
-- the owner alone: another process may leave and join instead
pub record Acted (c : ℕ) (d d' : Domain) (p : ℕ) : Type 0 where
  pub comes : distance d' c ≡ distance d c → AtGlobal d' p
  pub goes_on : p ≡ (node_of d c).owner → ((q : ℕ) → AtGlobal d q) → distance d' c ≢ distance d c

-- 1 for an accepted manage of p
abbrev pub turn : ℕ → Kind → Step → ℕ → ℕ
turn p k s r = cond (eqb r 0 && (is k Manage && eqb s.process p)) 1 0

-- an accepted leave of p
abbrev pub is_left : ℕ → Kind → Step → ℕ → Bool
is_left p k s r = eqb r 0 && (is k Leave && eqb s.process p)

-- process p has not left, and its calls are counted on
pub record Counted (k : Kind) (s : Step) (r : ℕ) (d d' : Domain) (p : ℕ) : Type 0 where
  pub calls : calls_of d' p ≡ calls_of d p + turn p k s r
  pub stays : is_left p k s r ≡ false

-- each process has been counted on, or has acted
pub record Moved (c : ℕ) (k : Kind) (d : Domain) (s : Step) (o : Outcome) : Type 0 where
  pub kept : Kept c d o.after
  pub acts : (p : ℕ) → Counted k s o.refusal d o.after p ⊎ Acted c d o.after p

pub kept_refl : (c : ℕ) (d : Domain) → Kept c d d
kept_refl c d = record { node = refl; params = refl; nearer = omega arith; same = λ _ p h. h }

-- what comes no closer by two lists of steps comes no closer by either
pub same-both : {c : ℕ} {d e f : Domain} → Kept c d e → Kept c e f → distance f c ≡ distance d c
    → (distance e c ≡ distance d c) × (distance f c ≡ distance e c)
same-both k l z = (omega (arith, k.nearer, l.nearer), omega (arith, k.nearer, l.nearer))

pub kept_trans : {c : ℕ} {d e f : Domain} → Kept c d e → Kept c e f → Kept c d f
kept_trans k l =
    record {
      node = l.node ∙ k.node;
      params = l.params ∙ k.params;
      nearer = omega (arith, k.nearer, l.nearer);
      same = λ z p h. let y = same-both k l z in l.same y.1 p (k.same y.0 p h);
    }

-- ---- steps that leave the epochs and the counts alone

pub record Same (x y : Process) : Type 0 where
  pub epoch : x.epoch ≡ y.epoch
  pub calls : x.calls ≡ y.calls
  pub part : in_epochs x ≡ in_epochs y

pub same_refl : (x : Process) → Same x x
same_refl x = record { epoch = refl; calls = refl; part = refl }

pub same_set : (d : Domain) (p : ℕ) (x : Process) → Same x (process_of d p) → (q : ℕ) → Same (process_of (set_process d p x) q) (process_of d q)
same_set d p x h q =
    set_keeps (λ y. Same y (process_of d q)) d.processes p q x no_process (λ e _. rw e h) (same_refl (process_of d q))

pub same-drained : (x : Process) (b : List Pending) → Same (drained x b) x
same-drained x [] = same_refl x
same-drained x (w ∷ b) = record { epoch = refl; calls = refl; part = refl }

pub same-flushed : (x : Process) (b : List Pending) → Same (flushed x b) x
same-flushed x [] = same_refl x
same-flushed x (w ∷ b) =
    let r = same-flushed (committing x w b) b in record { epoch = r.epoch; calls = r.calls; part = r.part }

pub same-absent : (d : Domain) (p : ℕ) → Same (process_of (clear_presence d) p) (process_of d p)
same-absent d p = rw (get_or-map without_presence d.processes p no_process) (record { epoch = refl; calls = refl; part = refl })

module _ (c : ℕ) (k : Kind) (d : Domain) (s : Step) where
  -- the node, its owner's epoch, the global one and the counts are as they were
  pub rests : (v : ℕ) (d' : Domain) → is k Manage ≡ false → is k Leave ≡ false → d'.params ≡ d.params → d'.epoch ≡ d.epoch → node_of d' c ≡ node_of d c
      → ((p : ℕ) → calls_of d' p ≡ calls_of d p) → (process_of d' (node_of d c).owner).epoch ≡ (process_of d (node_of d c).owner).epoch
      → ((p : ℕ) → AtGlobal d p → AtGlobal d' p) → Moved c k d s (accepted (effect v d'))
  rests v d' m l a e n f w g =
      let far : distance d' c ≡ distance d c = cc (e, n, w) in
      record {
        kept = record { node = n; params = a; nearer = omega arith; same = λ _. g };
        acts = λ p. inl (record { calls = rw m (omega (arith, f p)); stays = rw l });
      }

  pub still : (v : ℕ) (d' : Domain) → is k Manage ≡ false → is k Leave ≡ false → d'.params ≡ d.params → d'.epoch ≡ d.epoch → node_of d' c ≡ node_of d c
      → ((p : ℕ) → Same (process_of d' p) (process_of d p)) → Moved c k d s (accepted (effect v d'))
  still v d' m l a e n f =
      rests v d' m l a e n (λ p. (f p).calls) (f (node_of d c).owner).epoch
      (λ p h u. (f p).epoch ∙ h (sym (f p).part ∙ u) ∙ sym e)

  pub still-refused : (n : ℕ) → n ≢ 0 → Moved c k d s (refused n d)
  still-refused n z = record { kept = kept_refl c d; acts = λ p. inl (record { calls = rw (ne_eqb n 0 z) (omega arith); stays = rw (ne_eqb n 0 z) }) }

-- a node in another state than Retired is another node
pub other-node : (d : Domain) (c m k : ℕ) (n : Node) → (node_of d c).state ≡ Retired → (node_of d m).state ≡ k → k ≢ Retired
    → get_or (set d.nodes m n) c free_node ≡ node_of d c
other-node d c m k n r e ne =
    set_keeps (λ y. y ≡ node_of d c) d.nodes m c n free_node (λ q _. absurd (ne (sym e ∙ (rw q at r)))) refl

-- what a sweep has not freed is as it was
pub kept-by-sweep : (f : ℕ → Node → Bool) (ns : List Node) (c : ℕ) → (get_or (sweep_from free_node f 0 ns) c free_node).state ≢ Free
    → get_or (sweep_from free_node f 0 ns) c free_node ≡ get_or ns c free_node
kept-by-sweep f ns c = sweep-at free_node f (λ n. n.state ≢ Free → n ≡ get_or ns c free_node) 0 ns c (λ _ z. absurd (z refl)) (λ _. refl)

-- it did not pass
pub passed_over : (f : ℕ → Node → Bool) (ns : List Node) (c : ℕ) → (get_or (sweep_from free_node f 0 ns) c free_node).state ≢ Free
    → f c (get_or ns c free_node) ≡ false
passed_over f ns c live = by (f c (get_or ns c free_node)) (rw zero-add at (sweep-is free_node f 0 ns c))
  where
    by : (b : Bool) → get_or (sweep_from free_node f 0 ns) c free_node ≡ cond b free_node (get_or ns c free_node) → b ≡ false
    by true e = absurd (live (ap (λ n. n.state) e))
    by false e = refl

-- one process or another
pub by-process : (P : Type 0) (q p : ℕ) → (q ≡ p → P) → (q ≢ p → P) → P
by-process P q p f h = by (eqb q p) refl
  where
    by : (b : Bool) → eqb q p ≡ b → P
    by true e = f (eqb-true q p e)
    by false e = h (eqb-false q p e)
