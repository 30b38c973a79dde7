-- The invariant over a changed part of the domain: a node, a sweep of nodes, a process, the path, the presence words. Assumes nothing.
use Prim.Native.Nat.{ℕ, suc, ◌<◌}
use mathlib.Core.Bool.{Bool, true}
use mathlib.Core.List.{List, map}
use mathlib.Core.Path.{◌≡◌, refl, sym, ◌∙◌, ap, subst}
use native.Mathlib.Nat.{zero-add}
use lib.ListN.{length, get_or, set, length-set, length-map, get_or-map}
use Rattle.lists.specs.Sweep.{sweep_from}
use Rattle.lists.proofs.Stores.{set_cases, set_keeps}
use Rattle.lists.proofs.Sweeps.{sweep-at, sweep-length}
use Rattle.model.specs.State.{Pending, Hazard, Process, Node, Domain, Retired, no_process, free_node, node_of}
use Rattle.model.specs.State.{process_of, with_nodes, with_path, set_node, set_process, is_present, in_epochs}
use Rattle.model.specs.State.{without_presence, clear_presence}
use Rattle.model.proofs.Invariant.{Inv, ProcessInv, ProcessOk, Claim, Held, HeldBy, Near, epoch_in, Owned}
use Rattle.model.proofs.Invariant.{OwnerPresent, hazard_in}

-- with other local epochs: those of owners of Retired nodes that had come to the global one still have
with-epochs : {clock wait g : ℕ} {ep ep' : ℕ → ℕ} {ns : List Node} {e : ℕ} {b : List Pending} {hs : List Hazard} {c : Bool}
    → ((c : ℕ) → (get_or ns c free_node).state ≡ Retired → ep (get_or ns c free_node).owner ≡ g → ep' (get_or ns c free_node).owner ≡ g)
    → ProcessInv clock wait g ep ns e b hs c → ProcessInv clock wait g ep' ns e b hs c
with-epochs f o =
    record {
      arrives = o.arrives;
      timely = o.timely;
      aimed = o.aimed;
      counts = o.counts;
      held = λ h n v a. let k = o.held h n v a in record {
        published = k.published;
        limbo = λ r. let l = k.limbo r in record { before = l.before; home = λ q. f n r (l.home q); behind = l.behind };
      };
    }

-- with other nodes
with_nodes_lem : {clock wait g : ℕ} {ep : ℕ → ℕ} {ns ns' : List Node} {e : ℕ} {b : List Pending} {hs : List Hazard} {c : Bool}
    → ((h n : ℕ) → (hazard_in hs h).validated ≡ 1 → (hazard_in hs h).assigned ≡ suc n
    → Held g ep e b h (get_or ns n free_node) → Held g ep e b h (get_or ns' n free_node))
    → ProcessInv clock wait g ep ns e b hs c → ProcessInv clock wait g ep ns' e b hs c
with_nodes_lem f o =
    record {
      arrives = o.arrives;
      timely = o.timely;
      aimed = o.aimed;
      counts = o.counts;
      held = λ h n v a. f h n v a (o.held h n v a);
    }

module _ (d : Domain) (i : Inv d) where
  pub held_by : (p h n : ℕ) → Claim d p h n → HeldBy d p h (node_of d n)
  held_by p h n k = (i.processes p).held h n k.validated k.assigned

  pub same_nodes : (ns : List Node) → length ns ≡ length d.nodes → ((c : ℕ) → OwnerPresent d.processes (get_or ns c free_node))
      → ((p h n : ℕ) → Claim d p h n → HeldBy d p h (node_of d n) → HeldBy d p h (get_or ns n free_node)) → Inv (with_nodes d ns)
  same_nodes ns l w f =
      record {
        shape = record { processes = i.shape.processes; hazards = i.shape.hazards; nodes = l ∙ i.shape.nodes };
        epoch = i.epoch;
        near = i.near;
        processes = λ p. with_nodes_lem (λ h n v a. f p h n (record { validated = v; assigned = a })) (i.processes p);
        owners = w;
      }

  pub set_node_lem : (c : ℕ) (x : Node) → OwnerPresent d.processes x
      → ((p h : ℕ) → Claim d p h c → HeldBy d p h (node_of d c) → HeldBy d p h x) → Inv (set_node d c x)
  set_node_lem c x w f =
      same_nodes (set d.nodes c x) (length-set d.nodes c x)
      (λ n. set_keeps (OwnerPresent d.processes) d.nodes c n x free_node (λ _ _. w) (i.owners n)) λ p h n k o.
      set_keeps (HeldBy d p h) d.nodes c n x free_node
      (λ q o'. f p h (record { validated = k.validated; assigned = k.assigned ∙ ap suc q })
      (subst (λ (m : ℕ). HeldBy d p h (node_of d m)) q o')) o

  -- a sweep frees no node that is claimed
  pub sweep-nodes : (f : ℕ → Node → Bool) → ((p h n : ℕ) → Claim d p h n → f n (node_of d n) ≡ true → ⊥)
      → Inv (with_nodes d (sweep_from free_node f 0 d.nodes))
  sweep-nodes f never =
      same_nodes (sweep_from free_node f 0 d.nodes) (sweep-length free_node f 0 d.nodes)
      (λ n. sweep-at free_node f (OwnerPresent d.processes) 0 d.nodes n (λ _ z. absurd (z.0 refl)) (i.owners n)) λ p h n k o.
      sweep-at free_node f (HeldBy d p h) 0 d.nodes n (λ q. absurd (never p h n k (rw zero-add at q))) o

  -- a process that stays at the global epoch if it was there and has Retired nodes, and is present if it has nodes
  pub set_process_lem : (p : ℕ) (x : Process) → p < d.params.processes
      → length x.hazards ≡ length (process_of d p).hazards
      → (in_epochs x ≡ true → Near d.epoch x.epoch)
      → ((c : ℕ) → (node_of d c).state ≡ Retired → (node_of d c).owner ≡ p → (process_of d p).epoch ≡ d.epoch → x.epoch ≡ d.epoch)
      → ((c : ℕ) → Owned (node_of d c) → (node_of d c).owner ≡ p → is_present x ≡ true)
      → ProcessOk d x
      → Inv (set_process d p x)
  set_process_lem p x h l n up w o =
      record {
        shape = record {
          processes = length-set d.processes p x ∙ i.shape.processes;
          hazards = λ q k. set_cases (λ y. length y.hazards ≡ d.params.hazards) d.processes p q x no_process inside
              (λ _. l ∙ i.shape.hazards p inside) (λ _. i.shape.hazards q (rw length-set at k));
          nodes = i.shape.nodes;
        };
        epoch = i.epoch;
        near = λ q k. set_cases (λ y. in_epochs y ≡ true → Near d.epoch y.epoch) d.processes p q x no_process inside
            (λ _. n) (λ _. i.near q (rw length-set at k));
        processes = λ q. with-epochs still (set_cases (ProcessOk d) d.processes p q x no_process inside (λ _. o) (λ _. i.processes q));
        owners = λ c k. set_cases (λ y. is_present y ≡ true) d.processes p (node_of d c).owner x no_process inside (w c k) (λ _. i.owners c k);
      }
    where
      inside : p < length d.processes
      inside = rw i.shape.processes h

      still : (c : ℕ) → (node_of d c).state ≡ Retired → epoch_in d.processes (node_of d c).owner ≡ d.epoch
          → epoch_in (set d.processes p x) (node_of d c).owner ≡ d.epoch
      still c r e = set_cases (λ y. y.epoch ≡ d.epoch) d.processes p (node_of d c).owner x no_process inside
          (λ q. up c r q (ap (epoch_in d.processes) (sym q) ∙ e)) (λ _. e)

  -- a process that is as present as before is so for its nodes
  pub stays : (p : ℕ) {b : Bool} → b ≡ is_present (process_of d p) → (c : ℕ) → Owned (node_of d c) → (node_of d c).owner ≡ p → b ≡ true
  stays p e c k q = e ∙ ap (λ r. is_present (process_of d r)) (sym q) ∙ i.owners c k

  -- the path plays no part
  pub with_path_lem : (v : ℕ) → Inv (with_path d v)
  with_path_lem v =
      record {
        shape = record { processes = i.shape.processes; hazards = i.shape.hazards; nodes = i.shape.nodes };
        epoch = i.epoch;
        near = i.near;
        processes = i.processes;
        owners = i.owners;
      }

  -- nor do the presence words
  pub clear_presence_lem : Inv (clear_presence d)
  clear_presence_lem =
      record {
        shape = record {
          processes = length-map d.processes without_presence ∙ i.shape.processes;
          hazards = λ p h. rw (at p) (i.shape.hazards p (rw length-map at h));
          nodes = i.shape.nodes;
        };
        epoch = i.epoch;
        near = λ p h u. rw (at-epoch p) (i.near p (rw length-map at h) (sym (ap in_epochs (at p)) ∙ u));
        processes = λ p. rw (at p) (with-epochs (λ c _ e. at-epoch (node_of d c).owner ∙ e) (i.processes p));
        owners = λ c k. ap is_present (at (node_of d c).owner) ∙ i.owners c k;
      }
    where
      at : (p : ℕ) → process_of (clear_presence d) p ≡ without_presence (process_of d p)
      at p = get_or-map without_presence d.processes p no_process

      at-epoch : (p : ℕ) → epoch_in (map without_presence d.processes) p ≡ epoch_in d.processes p
      at-epoch p = ap (λ x. x.epoch) (at p)
