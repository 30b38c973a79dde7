-- A sweep in two passes: the places of the nodes that pass a test are noted, then the nodes at them are freed. For the loop of each
-- what holds at its head, where it starts, after a turn and where it ends; and a test that only a range of places passes. Assumes nothing.
use Prim.Native.Nat.{ℕ, zero, suc, ◌+◌, ◌-◌, ◌≤◌, ◌<◌}
use mathlib.Core.Bool.{Bool, true, false, cond, and-false}
use mathlib.Core.List.{List, append-nil}
use mathlib.Core.Path.{◌≡◌, refl, sym, ap, ◌∙◌, subst}
use native.Mathlib.Omega.{arith}
use native.Mathlib.Nat.{zero-add, add-zero}
use native.Mathlib.Numerals.{add-one}
use lib.ListN.{length, get_or, set, take, length-set, drop_of_length-le}
use lib.Seq.{take_all, take-set-le, take-suc-set}
use Rattle.lists.specs.Tests.{count_from, All}
use Rattle.lists.specs.Sweep.{set_each}
use Rattle.lists.proofs.Facts.{all_snoc}
use Rattle.lists.proofs.Turns.{one-most, count-from-turn, swept_to, swept-turn, swept_kept, each-length, each_more}
use Rattle.lists.proofs.Turns.{each_turn}
use borrow.Author.Tests.{lt-leb, le-ltb}
use Rattle.model.specs.Params.{most_nodes}
use Rattle.model.specs.State.{Node, free_node}
use Rattle.layout.specs.Nodes.{nodes_words}
use Rattle.layout.specs.Nodes.{nodes_in}
use Rattle.nodes.specs.Part.{node_in, Part, with_node}
use Rattle.nodes.specs.Sweeps.{freed_at, OnlyBetween, Swept}
use Rattle.nodes.proofs.Words.{nodes-length, nodes-back, part-words, part-with}

-- ---- the first pass

-- before node i so many places are noted, each of a node, whatever the test is
pub record Noted (m : ℕ) (r places : List ℕ) (count i : ℕ) : Type 0 where
  pub part : Part m r
  pub room : length places ≡ most_nodes
  pub low : i ≤ m
  pub few : count ≤ i
  pub below : All (λ c. c < m) (take count places)

-- they are those of the first i nodes that pass: where they are freed, the first i nodes are swept
pub record Noting (f : ℕ → Node → Bool) (m : ℕ) (r places : List ℕ) (count i : ℕ) : Type 0 where
  pub freed : set_each free_node (take count places) (nodes_in m r) ≡ swept_to f free_node 0 i (nodes_in m r)
  pub passed : count ≡ count_from f 0 (take i (nodes_in m r))

pub noted-none : {m i : ℕ} {r places : List ℕ} → Part m r → length places ≡ most_nodes → i ≤ m → Noted m r places 0 i
noted-none h e l = record { part = h; room = e; low = l; few = omega arith; below = tt }

inside : {m i : ℕ} (r : List ℕ) → i < m → i < length (nodes_in m r)
inside {m} r l = rw (nodes-length m r) l

module _ {m : ℕ} {r places : List ℕ} {count i : ℕ} where
  -- place i, noted and counted or not
  module _ (h : Noted m r places count i) (l : i < m) where
    there : count < length places
    there = omega (arith, h.room, h.few, h.part.few)

    below_more : (b : Bool) → All (λ c. c < m) (take (count + cond b 1 0) (set places count i))
    below_more true =
        rw (add-one count, take-suc-set places count i there) (all_snoc (λ c. c < m) (take count places) i h.below l)
    below_more false = rw (add-zero count, take-set-le count places count i (omega arith)) h.below

    pub noted-more : (b : Bool) → Noted m r (set places count i) (count + cond b 1 0) (suc i)
    noted-more b =
        record {
          part = h.part;
          room = length-set places count i ∙ h.room;
          low = l;
          few = omega (arith, one-most b, h.few);
          below = below_more b;
        }

  module _ {f : ℕ → Node → Bool} (k : Noting f m r places count i) (l : i < m) where
    passed-more : (b : Bool) → b ≡ f i (node_in m r i) → count + cond b 1 0 ≡ count_from f 0 (take (suc i) (nodes_in m r))
    passed-more b e = rw (k.passed, e) (rw zero-add at (count-from-turn f 0 (nodes_in m r) i free_node (inside r l)))

    -- place i passed over
    passed_over : f i (node_in m r i) ≡ false → Noting f m r places count (suc i)
    passed_over e =
        record {
          freed = k.freed ∙ swept_kept f free_node 0 (nodes_in m r) i free_node (inside r l) (rw zero-add e);
          passed = rw add-zero at (passed-more false (sym e));
        }

    freed-more : (h : Noted m r places count i) (b : Bool) → b ≡ f i (node_in m r i)
        → set_each free_node (take (count + cond b 1 0) (set places count i)) (nodes_in m r) ≡ swept_to f free_node 0 (suc i) (nodes_in m r)
    freed-more h true e =
        rw (add-one count, take-suc-set places count i (there h l))
        (sym (each_more free_node (take count places) i (nodes_in m r))
        ∙ (λ t. set (k.freed t) i (cond (e t) free_node (node_in m r i)))
        ∙ rw zero-add at (swept-turn f free_node 0 (nodes_in m r) i free_node (inside r l)))
    freed-more h false e = rw (add-zero count, take-set-le count places count i (omega arith)) (passed_over (sym e)).freed

    pub notes-more : Noted m r places count i → {b : Bool} → b ≡ f i (node_in m r i)
        → Noting f m r (set places count i) (count + cond b 1 0) (suc i)
    notes-more h {b} e = record { freed = freed-more h b e; passed = passed-more b e }

  notes-all : {f : ℕ → Node → Bool} {r' : List ℕ} → Noting f m r places count i → m ≤ i → r' ≡ freed_at (take count places) m r
      → Swept f m r r' count
  notes-all {f} k l e =
      let q : length (nodes_in m r) ≤ i = rw (nodes-length m r) l in
      (e ∙ ap (nodes_words) k.freed ∙ rw (take_all i (nodes_in m r) q, drop_of_length-le (nodes_in m r) q, append-nil), k.passed ∙ ap (count_from f 0) (take_all i (nodes_in m r) q))

-- n places passed over, none of which passes
notes-past : {f : ℕ → Node → Bool} {m : ℕ} {r places : List ℕ} {count i : ℕ} (n j : ℕ) → Noting f m r places count i → j ≡ i + n → j ≤ m
    → ((c : ℕ) (x : Node) → i ≤ c → c < j → f c x ≡ false) → Noting f m r places count j
notes-past {f} {m} {r} {places} {count} {i} zero j h e l no' =
    subst (λ k. Noting f m r places count k) (omega arith) h
notes-past {f} {m} {r} {places} {count} {i} (suc n) j h e l no' =
    notes-past n j (passed_over h (omega arith) (no' i (node_in m r i) (omega arith) (omega arith))) (omega arith) l
    (λ c x k. no' c x (omega arith))

-- of a test that only places from a up to b pass: those before and those after
pub notes-start : {f : ℕ → Node → Bool} {a m : ℕ} {r places : List ℕ} (b : ℕ) → OnlyBetween a b m f → a ≤ m → Noting f m r places 0 a
notes-start {a = a} b only l =
    notes-past {i = 0} a a (record { freed = refl; passed = refl }) (omega arith) l (λ c x _ k. only c x (omega arith) (rw (lt-leb a c k)))

pub notes-rest : {f : ℕ → Node → Bool} {b m : ℕ} {r places r' : List ℕ} {count i : ℕ} (a : ℕ) → OnlyBetween a b m f
    → Noting f m r places count i → i ≤ m → b ≤ i → r' ≡ freed_at (take count places) m r → Swept f m r r' count
notes-rest {b = b} {m = m} {i = i} a only h few l =
    notes-all
    (notes-past (m - i) m h (omega (arith, few)) (omega arith) (λ c x k below. only c x below (rw (le-ltb c b (omega arith), and-false))))
    (omega arith)

-- ---- the second pass

-- the words r₀ are r now: the nodes at the first j places are freed
pub record Freeing (m : ℕ) (places r₀ r : List ℕ) (j : ℕ) : Type 0 where
  pub part : Part m r
  pub words : r ≡ freed_at (take j places) m r₀

pub frees-none : {m : ℕ} {places r : List ℕ} → Part m r → Freeing m places r r 0
frees-none h = record { part = h; words = part-words h }

module _ {m : ℕ} {places r₀ r : List ℕ} {j : ℕ} (h : Freeing m places r₀ r j) where
  now-nodes : nodes_in m r ≡ set_each free_node (take j places) (nodes_in m r₀)
  now-nodes = rw h.words (nodes-back (set_each free_node (take j places) (nodes_in m r₀)) (each-length free_node (take j places) (nodes_in m r₀) ∙ nodes-length m r₀))

  pub frees-more : {r' : List ℕ} {c : ℕ} → j < length places → c ≡ get_or places j 0 → r' ≡ with_node m r c free_node
      → Freeing m places r₀ r' (suc j)
  frees-more {c = c} l q e =
      record {
        part = rw e (part-with h.part c free_node);
        words =
            e ∙ (λ t. nodes_words (set (now-nodes t) (q t) free_node))
            ∙ ap (nodes_words) (each_turn free_node places j (nodes_in m r₀) l);
      }
