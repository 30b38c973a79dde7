-- Over any list of steps from a fresh domain, the Reachable nodes are as many as the accepted publishes and reinserts less the accepted
-- removes.
-- Assumes nothing.
use Prim.Native.Nat.{ℕ, ◌+◌, ◌<◌}
use mathlib.Core.Bool.{Bool, ◌&&◌, ◌||◌, cond}
use mathlib.Core.List.{List, [], ◌∷◌}
use mathlib.Core.Path.{◌≡◌, refl, ◌∙◌, ap}
use native.Mathlib.Omega.{arith}
use borrow.Author.Tests.{ne_eqb}
use lib.ListN.{length, length-set, length-map, length-replicate}
use lib.Dec.{eqb}
use Rattle.lists.specs.Tests.{count}
use Rattle.lists.proofs.Bools.{by_cond}
use Rattle.lists.proofs.Counts.{count_map, count-swap, count-replicate}
use Rattle.lists.proofs.Sweeps.{sweep-length, count-others}
use Rattle.model.specs.Params.{Params}
use Rattle.model.specs.State.{Node, Domain, Step, Reachable, free_node, node_of, process_of, set_node}
use Rattle.model.specs.Kinds.{Kind, kind_of, is, Allocate, Publish, Protect, Check, Use, Clear, Remove}
use Rattle.model.specs.Kinds.{Retire, Drain, Flush, Tick, Manage, ClearPresence, Reinsert, Leave, Join, Portion}
use Rattle.model.specs.Kinds.{Unknown}
use Rattle.model.specs.Retire.{Effect, retired_by, marked}
use Rattle.model.specs.Leave.{handed}
use Rattle.model.specs.Machine.{Outcome, act, step_as, step, run, fresh}
use Rattle.model.specs.Claims.{reachable_count, raises, lowers, accepted_of, PanelStep, Panel}
use Rattle.model.proofs.Walk.{Asked, by-step}
use Rattle.model.proofs.KindNumbers.{same_kind}
use Rattle.model.proofs.Freeing.{Reclaims, retired_by_lem, partial-reclaims, reclaim-reclaims, manage-reclaims}

abbrev reachable : Node → Bool
reachable n = eqb n.state Reachable

abbrev one : Bool → ℕ
one b = cond b 1 0

-- the kinds that raise the count, and that lower it
abbrev up : Kind → Bool
up k = is k Publish || is k Reinsert

abbrev down : Kind → Bool
down k = is k Remove

-- as many nodes as the parameters say
abbrev Full : Domain → Type 0
Full d = length d.nodes ≡ d.params.nodes

-- what a kind does to the Reachable nodes: it leaves ns, as many as before
record Balanced (k : Kind) (d : Domain) (m : ℕ) (ns : List Node) : Type 0 where
  full : length ns ≡ m
  even : count reachable ns + one (down k) ≡ reachable_count d + one (up k)

-- ---- A store, and a sweep of Retired nodes

stored : (k : Kind) (d : Domain) → Full d → (c : ℕ) (n : Node) → c < d.params.nodes
    → one (reachable n) + one (down k) ≡ one (reachable (node_of d c)) + one (up k)
    → Balanced k d d.params.nodes (set_node d c n).nodes
stored k d h c n l e =
    let swap = count-swap reachable d.nodes c n free_node (rw h l) in
    record { full = length-set d.nodes c n ∙ h; even = omega arith }

swept : (k : Kind) (d : Domain) {a : Params} {ns : List Node} (e : Effect) → Balanced k d a.nodes ns → Reclaims a ns e
    → Balanced k d e.after.params.nodes e.after.nodes
swept k d {ns = ns} e b r =
    rw (r.params, r.nodes)
    (record {
      full = sweep-length free_node r.test 0 ns ∙ b.full;
      even = rw (count-others free_node r.test reachable 0 ns refl (λ c n q. rw (r.retired c n q))) b.even;
    })

-- a node handed over was Retired, and is
reachable-handed : (p q t e : ℕ) (n : Node) → reachable (handed p q t e n) ≡ reachable n
reachable-handed p q t e n =
    by_cond (λ x. reachable x ≡ reachable n) (retired_by p n) (λ h. rw (retired_by_lem p n h).0) (λ _. refl)

-- ---- A step

balanced : (k : Kind) (d : Domain) (s : Step) → Full d → Asked k d s
    → Balanced k d (act k d s).after.params.nodes (act k d s).after.nodes
balanced Allocate d s h a = stored Allocate d h s.node _ (a.node refl) (rw (a.state _ refl))
balanced Publish d s h a = stored Publish d h s.node _ (a.node refl) (rw (a.state _ refl))
balanced Protect d s h a = record { full = h; even = refl }
balanced Check d s h a = record { full = h; even = refl }
balanced Use d s h a = record { full = h; even = refl }
balanced Clear d s h a = record { full = h; even = refl }
balanced Remove d s h a = stored Remove d h s.node _ (a.node refl) (rw (a.state _ refl))
balanced Retire d s h a =
    swept Retire d _ (stored Retire d h s.node _ (a.node refl) (rw (a.state _ refl))) (reclaim-reclaims (marked d s) s.process)
balanced Drain d s h a = record { full = h; even = refl }
balanced Flush d s h a = record { full = h; even = refl }
balanced Tick d s h a = record { full = h; even = refl }
balanced Manage d s h a = swept Manage d _ (record { full = h; even = refl }) (manage-reclaims d s)
balanced ClearPresence d s h a = record { full = h; even = refl }
balanced Reinsert d s h a = stored Reinsert d h s.node _ (a.node refl) (rw (a.state _ refl))
balanced Leave d s h a =
    record {
      full = length-map d.nodes _ ∙ h;
      even = ap (λ n. n + 0)
          (count_map reachable _ d.nodes ∙ (λ t. count (λ n. reachable-handed s.process s.node d.clock (process_of d s.node).epoch n t) d.nodes));
    }
balanced Join d s h a = record { full = h; even = refl }
balanced Portion d s h a = swept Portion d _ (record { full = h; even = refl }) (partial-reclaims d s.process s.node _)
balanced Unknown d s h a = record { full = h; even = refl }

-- the same of an outcome, whichever way it is told what lowers and what raises
abbrev Tally : Bool → Bool → Domain → Outcome → Type 0
Tally lower raise d o =
    Full o.after
    × (reachable_count o.after + one (eqb o.refusal 0 && lower) ≡ reachable_count d + one (eqb o.refusal 0 && raise))

tally-as : (k : Kind) (lower raise : Bool) → lower ≡ down k → raise ≡ up k
    → (d : Domain) (s : Step) → Full d → Tally lower raise d (step_as k d s)
tally-as k lower raise l r d s h =
    by-step k d s (Tally lower raise d) (λ n z. (h, rw (ne_eqb n 0 z)))
    (λ a. let b = balanced k d s h a in (b.full, rw (l, r) b.even))

tally : (d : Domain) (s : Step) → Full d → Tally (lowers s.kind) (raises s.kind) d (step d s)
unfolding step
tally d s =
    tally-as (kind_of s.kind) (lowers s.kind) (raises s.kind) (same_kind s.kind Remove refl)
    (λ i. same_kind s.kind Publish refl i || same_kind s.kind Reinsert refl i) d s

pub panel-step : PanelStep
panel-step d s f = (tally d s f.node_count).1

-- ---- A run

tally-run : (ss : List Step) (d : Domain) → Full d
    → reachable_count (run d ss) + accepted_of lowers d ss ≡ reachable_count d + accepted_of raises d ss
tally-run [] d h = refl
tally-run (s ∷ ss) d h =
    let o = tally d s h in
    let rest = tally-run ss (step d s).after o.0 in omega arith

start : (a : Params) → Full (fresh a) × (reachable_count (fresh a) ≡ 0)
unfolding fresh
start a = (length-replicate _ _, count-replicate reachable a.nodes free_node refl)

pub panel : Panel
panel a ss = omega (arith, tally-run ss (fresh a) (start a).0, (start a).1)
