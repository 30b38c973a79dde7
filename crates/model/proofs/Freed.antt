-- The freed count that a step reports is the number of nodes that it turned Free; the other steps turn none. Assumes nothing.
use Prim.Native.Nat.{ℕ}
use mathlib.Core.Bool.{Bool, true, false, not, ◌&&◌, ◌||◌, cond}
use mathlib.Core.List.{List}
use mathlib.Core.Path.{◌≡◌, refl, sym, ◌∙◌, ap}
use mathlib.Core.Logic.{◌≢◌}
use native.Mathlib.Omega.{arith}
use native.Mathlib.Nat.{zero-add}
use borrow.Author.Tests.{ne_eqb, eq-eqb, eqb-true}
use lib.ListN.{length, get_or, length-set, length-map}
use lib.Dec.{eqb}
use Rattle.lists.proofs.Bools.{by_cond, not-alone}
use Rattle.lists.proofs.Stores.{set_keeps}
use Rattle.lists.proofs.Counts.{count-places}
use Rattle.lists.proofs.Sweeps.{sweep-is}
use Rattle.model.specs.Params.{Params}
use Rattle.model.specs.State.{Node, Domain, Step, Free, Retired, free_node, node_of, set_node}
use Rattle.model.specs.Kinds.{Kind, kind_of, is, Allocate, Publish, Protect, Check, Use, Clear, Remove}
use Rattle.model.specs.Kinds.{Retire, Drain, Flush, Tick, Manage, ClearPresence, Reinsert, Leave, Join, Portion}
use Rattle.model.specs.Kinds.{Unknown}
use Rattle.model.specs.Retire.{Effect, retired_by, marked}
use Rattle.model.specs.Leave.{handed, hand_over}
use Rattle.model.specs.Machine.{act, step_as, step}
use Rattle.model.specs.Claims.{turned_free, reports_freed, FreedAreCounted}
use Rattle.model.proofs.Walk.{Asked, by-step}
use Rattle.model.proofs.KindNumbers.{same_kind}
use Rattle.model.proofs.Freeing.{Reclaims, reclaims-none, retired_by_lem, partial-reclaims, reclaim-reclaims}
use Rattle.model.proofs.Freeing.{manage-reclaims}
use Rattle.model.proofs.Handed.{handed-at}

-- what a node that became n may have been: nothing but a Free node becomes Free, and no Free node Retired
record Was (before n : Node) : Type 0 where
  free : n.state ≡ Free → before.state ≡ Free
  retired : n.state ≡ Retired → before.state ≢ Free

-- at one place: the node before, the node to be swept, and the test
turned : (before n : Node) (b : Bool) → Was before n → (b ≡ true → n.state ≡ Retired)
    → (not (eqb before.state Free) && eqb (cond b free_node n).state Free) ≡ b
turned before n true w r = rw (ne_eqb _ _ (w.retired (r refl)))
turned before n false w r =
    not-alone (eqb before.state Free) (eqb n.state Free) (λ e. eq-eqb _ _ (w.free (eqb-true _ _ e)))

-- nodes ns that came from those of d, and what is swept of them
turned-sweep : (d : Domain) {a : Params} {ns : List Node} (e : Effect) → Reclaims a ns e → length d.nodes ≡ length ns
    → ((c : ℕ) → Was (node_of d c) (get_or ns c free_node)) → turned_free d e.after ≡ e.value
turned-sweep d {ns = ns} e r many was =
    count-places _ r.test 0 d.nodes ns free_node free_node many
    (λ c. rw (zero-add c, left c) (turned (node_of d c) (get_or ns c free_node) _ (was c) (r.retired c _))) ∙ sym r.value
  where
    left : (c : ℕ) → node_of e.after c ≡ cond (r.test c (get_or ns c free_node)) free_node (get_or ns c free_node)
    left c = rw zero-add at (ap (λ l. get_or l c free_node) r.nodes ∙ sweep-is free_node r.test 0 ns c)

-- ---- A node is stored, or none

set-was : (d : Domain) (c : ℕ) (n : Node) → Was (node_of d c) n → (j : ℕ) → Was (node_of d j) (node_of (set_node d c n) j)
set-was d c n w j = set_keeps (Was (node_of d j)) d.nodes c j n free_node (λ e _. rw e w) (omega arith)

stored : (d : Domain) (c : ℕ) (n : Node) → Was (node_of d c) n → turned_free d (set_node d c n) ≡ 0
stored d c n w =
    turned-sweep d _ (reclaims-none (set_node d c n)) (sym (length-set d.nodes c n)) (set-was d c n w)

-- where nothing changes
pub none-turned : (d : Domain) → turned_free d d ≡ 0
none-turned d = turned-sweep d _ (reclaims-none d) refl (λ c. omega arith)

-- ---- Nodes handed over

handed-was : (p q t e : ℕ) (n : Node) → Was n (handed p q t e n)
handed-was p q t e n =
    by_cond (Was n) (retired_by p n) (λ h. omega (arith, (retired_by_lem p n h).0)) (λ _. omega arith)

handed-over : (d : Domain) (p q : ℕ) → turned_free d (hand_over d p q) ≡ 0
handed-over d p q =
    turned-sweep d _ (reclaims-none (hand_over d p q)) (sym (length-map d.nodes _))
    (λ c. rw (handed-at d p q c) (handed-was p q _ _ (node_of d c)))

-- ---- A step

freed : (k : Kind) (d : Domain) (s : Step) → Asked k d s
    → turned_free d (act k d s).after ≡ cond (is k Retire || (is k Manage || is k Portion)) (act k d s).value 0
freed Allocate d s a = stored d s.node _ (omega arith)
freed Publish d s a = stored d s.node _ (omega arith)
freed Protect d s a = none-turned d
freed Check d s a = none-turned d
freed Use d s a = none-turned d
freed Clear d s a = none-turned d
freed Remove d s a = stored d s.node _ (omega arith)
freed Retire d s a =
    turned-sweep d _ (reclaim-reclaims (marked d s) s.process) (sym (length-set d.nodes s.node _))
    (set-was d s.node _ (omega (arith, a.state _ refl)))
freed Drain d s a = none-turned d
freed Flush d s a = none-turned d
freed Tick d s a = none-turned d
freed Manage d s a = turned-sweep d _ (manage-reclaims d s) refl (λ c. omega arith)
freed ClearPresence d s a = none-turned d
freed Reinsert d s a = stored d s.node _ (omega arith)
freed Leave d s a = handed-over d s.process s.node
freed Join d s a = none-turned d
freed Portion d s a = turned-sweep d _ (partial-reclaims d s.process s.node _) refl (λ c. omega arith)
freed Unknown d s a = none-turned d

-- of an outcome, whichever way the kinds that free are told
freed_as_lem : (k : Kind) (reports : Bool) → reports ≡ (is k Retire || (is k Manage || is k Portion)) → (d : Domain) (s : Step)
    → turned_free d (step_as k d s).after ≡ cond (eqb (step_as k d s).refusal 0 && reports) (step_as k d s).value 0
freed_as_lem k reports e d s =
    by-step k d s (λ o. turned_free d o.after ≡ cond (eqb o.refusal 0 && reports) o.value 0)
    (λ n z. rw (ne_eqb n 0 z) (none-turned d)) (λ a. rw e (freed k d s a))

pub freed-are-counted : FreedAreCounted
unfolding step
freed-are-counted d s =
    freed_as_lem (kind_of s.kind) (reports_freed s.kind)
    (λ i. same_kind s.kind Retire refl i || (same_kind s.kind Manage refl i || same_kind s.kind Portion refl i)) d s
