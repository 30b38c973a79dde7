-- The nodes' part of a domain's words, as it is lent and as it comes back. Assumes nothing.
use Prim.Native.Nat.{ℕ, suc, ◌-◌, ◌≤◌}
use mathlib.Core.Bool.{Bool, false, not, ◌&&◌}
use mathlib.Core.List.{List}
use mathlib.Core.Path.{◌≡◌, refl, ◌∙◌, ap, subst}
use native.Mathlib.Omega.{arith}
use lib.ListN.{length, get_or, take, drop, length-drop}
use lib.Dec.{ltb}
use lib.Seq.{take_all}
use borrow.Rule.Slice.PartMut.{put_mid}
use Rattle.lists.specs.Tests.{count_from}
use Rattle.lists.proofs.Compares.{ltb-swap}
use Rattle.lists.specs.Sweep.{sweep_from}
use Rattle.model.specs.Params.{delay}
use Rattle.model.specs.State.{Node, Domain, free_node, with_nodes}
use Rattle.model.specs.Retire.{retired_by, aged, within, freeing}
use Rattle.layout.specs.Shape.{nodes_start}
use Rattle.layout.specs.Nodes.{nodes_in, nodes_words}
use Rattle.layout.specs.Encode.{shape, encode, decode, decode_by, params_in}
use Rattle.layout.specs.Sound.{Sound}
use Rattle.layout.proofs.Sound.{nodes-written}
use Rattle.nodes.specs.Sweeps.{due_between, Swept}
use Rattle.domain.specs.Effects.{Does, unmarked}

-- retired before the limit is retired more than the delay ago
old : (d : Domain) (n : Node) (limit : ℕ) → limit ≡ d.clock - delay d.params → ltb n.retired_at limit ≡ aged d n
old d n limit e = rw (e, ltb-swap n.retired_at (delay d.params) d.clock)

module _ {ws : List ℕ} (s : Sound ws) (a : ℕ) (e : a ≡ nodes_start shape (params_in ws).processes (params_in ws).hazards) where
  -- what is lent holds the nodes
  pub lent-nodes : nodes_in (params_in ws).nodes (take (length ws - a) (drop a ws)) ≡ (decode ws).nodes
  unfolding decode_by
  lent-nodes =
      let h : length (drop a ws) ≤ length ws - a = simp length-drop (omega arith) in
      ap (λ (r : List ℕ). nodes_in (params_in ws).nodes r) (take_all (length ws - a) (drop a ws) h)
      ∙ ap (λ (b : ℕ). nodes_in (params_in ws).nodes (drop b ws)) e

  -- nodes that come back are the domain's
  pub nodes-back : (f : List Node → List Node) (r : List ℕ) → r ≡ nodes_words (f (nodes_in (params_in ws).nodes (take (length ws - a) (drop a ws))))
      → put_mid a (length ws - a) ws r ≡ encode (with_nodes (decode ws) (f (decode ws).nodes))
  nodes-back f r q =
      ap (λ (y : List ℕ). put_mid a (length ws - a) ws y) (q ∙ ap (λ (ns : List Node). nodes_words (f ns)) lent-nodes)
      ∙ nodes-written s a e (length ws - a) (f (decode ws).nodes) refl

  pub swept-back : (f : ℕ → Node → Bool) (r : List ℕ) (v : ℕ) → Swept f (params_in ws).nodes (take (length ws - a) (drop a ws)) r v
      → Does (freeing (decode ws) f) (put_mid a (length ws - a) ws r) v
  swept-back f r v q = (nodes-back (sweep_from free_node f 0) r q.0, q.1 ∙ ap (count_from f 0) lent-nodes)

  -- a sweep by marks and by the clock below which a node is old enough
  pub due-back : (p from to limit : ℕ) (marks : List Bool) (r : List ℕ) (v : ℕ) → limit ≡ (decode ws).clock - delay (decode ws).params
      → Swept (due_between p from to limit marks) (params_in ws).nodes (take (length ws - a) (drop a ws)) r v
      → Does (freeing (decode ws) (unmarked (decode ws) p from to marks)) (put_mid a (length ws - a) ws r) v
  due-back p from to limit marks r v q h =
      let d : Domain = decode ws in
      let same : due_between p from to limit marks ≡ unmarked d p from to marks =
      λ t c n. within from to c && (retired_by p n && (old d n limit q t && not (get_or marks (suc c) false))) in
      swept-back (unmarked d p from to marks) r v
      (subst (λ f. Swept f (params_in ws).nodes (take (length ws - a) (drop a ws)) r v) same h)
