-- The reference's image of a domain: it agrees with the domain, and the reference's step at the image comes to the image of the domain
-- after it. Assumes nothing.
use Prim.Native.Nat.{ℕ, ◌-◌, ◌<◌}
use mathlib.Core.Bool.{Bool, true, false, cond, ◌||◌}
use mathlib.Core.List.{List, [], ◌∷◌, map, map-map}
use mathlib.Core.Path.{◌≡◌, refl, sym, ap, ◌∙◌}
use borrow.Author.Tests.{lt-ltb, eq-eqb, ne_eqb}
use lib.ListN.{get_or, length-map, get_or-map}
use lib.Seq.{map-set_same}
use Rattle.lists.specs.Tests.{every}
use Rattle.lists.proofs.Stores.{map-set, map-replicate, map-again}
use Rattle.model.specs.Params.{Params}
use Rattle.model.specs.State.{Pending, Hazard, Process, Node, Domain, Step, empty_hazard, no_process}
use Rattle.model.specs.State.{free_node, node_of, process_of, hazard_of, set_process, without_presence, clear_presence}
use Rattle.model.specs.Kinds.{Kind, is, Allocate, Publish, Protect, Check, Use, Clear, Remove, Retire}
use Rattle.model.specs.Kinds.{Drain, Flush, Tick, Manage, ClearPresence, Reinsert, Leave, Join, Portion}
use Rattle.model.specs.Kinds.{Unknown}
use Rattle.model.specs.Hazards.{here, target, committing, drained, flushed}
use Rattle.model.specs.Retire.{retired_by, retiring, marked}
use Rattle.model.specs.Leave.{owned_by, handed, hand_over}
use Rattle.model.specs.Machine.{act, fresh}
use Rattle.model.specs.Reference.{Cell, Pointer, Reference, empty_cell, empty_pointer, initial, cell_at}
use Rattle.model.specs.Reference.{pointer_at, with_each_cell, passed, process?, node?, state?, owner?, asks}
use Rattle.model.specs.Reference.{follow, value_of}
use Rattle.model.specs.Claims.{Agrees, command_of}
use Rattle.model.proofs.Walk.{Asked}
use Rattle.model.proofs.KindNumbers.{at_kind}
use Rattle.model.proofs.Invariant.{Shaped}

abbrev pub cell : Node → Cell
cell n = record { state = n.state; owner = n.owner; guest = n.guest }

abbrev pub pointer' : Hazard → Pointer
pointer' h = record { assigned = h.assigned; validated = h.validated }

abbrev pub row : Process → List Pointer
row x = map pointer' x.hazards

abbrev pub image : Domain → Reference
image d =
    record {
      processes = d.params.processes;
      hazards = d.params.hazards;
      nodes = d.params.nodes;
      cells = map cell d.nodes;
      pointers = map row d.processes;
    }

cell_at_lem : (ns : List Node) (c : ℕ) → get_or (map cell ns) c empty_cell ≡ cell (get_or ns c free_node)
cell_at_lem ns c = get_or-map cell ns c free_node

row_at : (ps : List Process) (p : ℕ) → get_or (map row ps) p [] ≡ row (get_or ps p no_process)
row_at ps p = get_or-map row ps p no_process

pointer_at_lem : (hs : List Hazard) (h : ℕ) → get_or (map pointer' hs) h empty_pointer ≡ pointer' (get_or hs h empty_hazard)
pointer_at_lem hs h = get_or-map pointer' hs h empty_hazard

pub pointer-there : (d : Domain) (p h : ℕ) → pointer_at (image d) p h ≡ pointer' (hazard_of (process_of d p) h)
pointer-there d p h = rw (row_at d.processes p) (pointer_at_lem (process_of d p).hazards h)

pub image-agrees : (a : Params) (d : Domain) → d.params ≡ a → Shaped d → Agrees a (image d) d
image-agrees a d e s =
    record {
      nodes = length-map d.nodes cell ∙ s.nodes ∙ ap (λ x. x.nodes) e;
      processes = length-map d.processes row ∙ s.processes ∙ ap (λ x. x.processes) e;
      hazards = λ p h. rw (row_at d.processes p) (length-map (process_of d p).hazards pointer'
          ∙ s.hazards p (rw (s.processes, e) h) ∙ ap (λ x. x.hazards) e);
      state = λ c. ap (λ n. n.state) (cell_at_lem d.nodes c);
      owner = λ c. ap (λ n. n.owner) (cell_at_lem d.nodes c);
      guest = λ c. ap (λ n. n.guest) (cell_at_lem d.nodes c);
      assigned = λ p h. ap (λ n. n.assigned) (pointer-there d p h);
      validated = λ p h. ap (λ n. n.validated) (pointer-there d p h);
    }

-- ---- the reference's questions at the image: all yes, where the step's own are

-- those of a node in state n that the process owns
yes-owned : (d : Domain) (s : Step) (n : ℕ) → s.process < d.params.processes → s.node < d.params.nodes
    → (node_of d s.node).state ≡ n → (node_of d s.node).owner ≡ s.process
    → every (λ b. b)
    (process? (image d) (command_of s) ∷ node? (image d) (command_of s) ∷ state? n (image d) (command_of s) ∷ owner? (image d) (command_of s) ∷ []) ≡ true
yes-owned d s n p c st o = simp (lt-ltb _ _ p, lt-ltb _ _ c, cell_at_lem, eq-eqb _ _ st, eq-eqb _ _ o)

pub yes-as : (k : Kind) (d : Domain) (s : Step) → Asked k d s → every (λ b. b) (asks (image d) (command_of (at_kind k s))) ≡ true
unfolding asks
yes-as Allocate d s a = simp (lt-ltb _ _ (a.process refl), lt-ltb _ _ (a.node refl), cell_at_lem, eq-eqb _ _ (a.state 0 refl))
yes-as Publish d s a = yes-owned d s 1 (a.process refl) (a.node refl) (a.state 1 refl) (a.owner refl)
yes-as Protect d s a = simp (lt-ltb _ _ (a.process refl), lt-ltb _ _ (a.hazard refl), lt-ltb _ _ (a.node refl))
yes-as Check d s a =
    simp (lt-ltb _ _ (a.process refl), lt-ltb _ _ (a.hazard refl), row_at, pointer_at_lem, cell_at_lem, ne_eqb _ _ (a.assigned refl), eq-eqb _ _ (a.reachable refl))
yes-as Use d s a = simp (lt-ltb _ _ (a.process refl), lt-ltb _ _ (a.hazard refl), row_at, pointer_at_lem, eq-eqb _ _ (a.validated refl))
yes-as Clear d s a = simp (lt-ltb _ _ (a.process refl), lt-ltb _ _ (a.hazard refl))
yes-as Remove d s a = simp (lt-ltb _ _ (a.process refl), lt-ltb _ _ (a.node refl), cell_at_lem, eq-eqb _ _ (a.state 2 refl))
yes-as Retire d s a = yes-owned d s 3 (a.process refl) (a.node refl) (a.state 3 refl) (a.owner refl)
yes-as Drain d s a = refl
yes-as Flush d s a = refl
yes-as Tick d s a = refl
yes-as Manage d s a = refl
yes-as ClearPresence d s a = refl
yes-as Reinsert d s a = yes-owned d s 3 (a.process refl) (a.node refl) (a.state 3 refl) (a.owner refl)
yes-as Leave d s a = simp (lt-ltb _ _ (a.process refl))
yes-as Join d s a = simp (lt-ltb _ _ (a.process refl))
yes-as Portion d s a = simp (lt-ltb _ _ (a.process refl), lt-ltb _ _ (a.node refl), a.limit refl)
yes-as Unknown d s a = refl

-- ---- changes that the image does not show

row-drained : (x : Process) (b : List Pending) → row (drained x b) ≡ row x
row-drained x [] = refl
row-drained x (w ∷ b) = map-set_same pointer' x.hazards w.hazard _ empty_hazard refl

row-flushed : (x : Process) (b : List Pending) → row (flushed x b) ≡ row x
row-flushed x [] = refl
row-flushed x (w ∷ b) = row-flushed (committing x w b) b ∙ row-drained x (w ∷ b)

-- a process that keeps what is assigned and validated
pub same_row : (d : Domain) (p : ℕ) (x : Process) → row x ≡ row (process_of d p) → image (set_process d p x) ≡ image d
same_row d p x e = simp (map-set_same row d.processes p x no_process e)

pub same-presence : (d : Domain) → image (clear_presence d) ≡ image d
same-presence d = simp (map-again row without_presence d.processes (λ _. refl))

-- nodes handed over pass from owner to owner on the reference
cell-handed : (p q t e : ℕ) (n : Node) → cell (handed p q t e n) ≡ passed p q (cell n)
cell-handed p q t e n = by (retired_by p n)
  where
    by : (b : Bool) → cell (cond b (retiring t e (owned_by q n)) n) ≡ cond b (record { state = 4; owner = q; guest = n.guest }) (cell n)
    by true = refl
    by false = refl

same-handed : (d : Domain) (p q : ℕ) → with_each_cell (image d) (passed p q) ≡ image (hand_over d p q)
same-handed d p q =
    let t = d.clock in
    let e = (process_of d q).epoch in
    let same = map-map cell (handed p q t e) d.nodes ∙ (λ i. map (λ n. cell-handed p q t e n i) d.nodes) ∙ sym (map-map (passed p q) cell d.nodes) in
    simp same

-- ---- the reference's step at the image. A retire frees, and a manage and a portion do all that they do, after this

abbrev pub before : Kind → Domain → Step → Domain
before k d s = cond (is k Retire) (marked d s) (cond (is k Manage || is k Portion) d (act k d s).after)

pub follow-as : (k : Kind) (d : Domain) (s : Step) → follow (image d) (command_of (at_kind k s)) ≡ image (before k d s)
unfolding follow
follow-as Allocate d s = simp map-set
follow-as Publish d s = simp (cell_at_lem, map-set)
follow-as Protect d s = simp (row_at, map-set)
follow-as Check d s = simp (row_at, pointer_at_lem, map-set)
follow-as Use d s = refl
follow-as Clear d s = simp (row_at, map-set)
follow-as Remove d s = simp (cell_at_lem, map-set)
follow-as Retire d s = simp (cell_at_lem, map-set)
follow-as Drain d s = sym (same_row d s.process _ (row-drained (here d s) (here d s).buffer))
follow-as Flush d s = sym (same_row d s.process _ (row-flushed (here d s) (here d s).buffer))
follow-as Tick d s = refl
follow-as Manage d s = refl
follow-as ClearPresence d s = sym (same-presence d)
follow-as Reinsert d s = simp (cell_at_lem, map-set)
follow-as Leave d s = same-handed d s.process s.node ∙ sym (same_row (hand_over d s.process s.node) s.process _ refl)
follow-as Join d s = sym (same_row d s.process _ refl)
follow-as Portion d s = refl
follow-as Unknown d s = refl

-- the value of a use
pub value-at : (d : Domain) (s : Step) → value_of (image d) (command_of s) ≡ (target d s).guest
unfolding value_of
value-at d s =
    ap (λ x. (cell_at (image d) (x.assigned - 1)).guest) (pointer-there d s.process s.hazard) ∙ ap (λ n. n.guest) (cell_at_lem d.nodes _)

pub image-fresh : (a : Params) → initial a.processes a.hazards a.nodes ≡ image (fresh a)
unfolding initial fresh
image-fresh a = simp map-replicate
