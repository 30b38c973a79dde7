-- The test of the nodes' part of the words, as the facts that it stands for, and back, in the paper's layout. Assumes nothing.
use Prim.Native.Nat.{ℕ, ◌+◌, ◌*◌, ◌<◌}
use mathlib.Core.Bool.{Bool, true, false, not, ◌&&◌, ◌||◌, or-true}
use mathlib.Core.List.{List}
use mathlib.Core.Path.{◌≡◌, refl, ap, ◌∙◌, subst}
use mathlib.Core.Logic.{◌≢◌}
use native.Mathlib.Omega.{arith}
use lib.ListN.{length, get_or}
use lib.Dec.{leb, ltb, eqb}
use borrow.Author.Tests.{leb-true, ltb-true, eqb-true, eqb-false, not-true, le-leb, lt-ltb, eq-eqb, ne_eqb}
use Rattle.lists.specs.Tests.{implies, All}
use Rattle.lists.proofs.Bools.{both, implied, imply}
use Rattle.lists.proofs.Facts as F
use Rattle.lists.proofs.Upto.{all-at, all_yes, all_of}
use Rattle.lists.proofs.Rows.{length-unrows, unrows-at}
use Rattle.model.specs.Params.{Params, node_width}
use Rattle.model.specs.State.{Free, Reachable, Retired, free_node}
use Rattle.model.specs.WellFormed.{NodeFits}
use Rattle.layout.specs.Shape.{word}
use Rattle.layout.specs.Codecs.{node_at}
use Rattle.layout.specs.Nodes.{nodes_in, node_fits, nodes_fit}
use Rattle.layout.proofs.Places.{node_from, node_from_lem}
use Rattle.layout.proofs.Fits.{pass}

-- what follows from each of two tests follows from either
either : {C : Type 0} (a b : Bool) → (a || b) ≡ true → (a ≡ true → C) → (b ≡ true → C) → C
either true b h f g = f refl
either false b h f g = g h

module _ (p : Params) (clock : ℕ) (ws : List ℕ) (a : ℕ) where
  node-facts : node_fits p.processes clock ws a ≡ true → NodeFits p clock (node_from ws a)
  unfolding node_fits
  node-facts e =
      let e₀ = both (leb (word ws a) Retired) _ e in
      let e₁ = both (ltb (word ws (a + 1)) p.processes) _ e₀.1 in
      let e₂ = both (leb (word ws (a + 3)) clock) _ e₁.1 in
      let e₃ = both (leb (word ws (a + 4)) 2) _ e₂.1 in
      let e₄ = both (implies (eqb (word ws a) Free || eqb (word ws a) Reachable) (eqb (word ws (a + 1)) 0)) _ e₃.1 in
      let e₅ = both (implies (not (eqb (word ws a) Retired)) (eqb (word ws (a + 3)) 0 && eqb (word ws (a + 4)) 0)) _ e₄.1 in
      let owner : (eqb (word ws a) Free || eqb (word ws a) Reachable) ≡ true → word ws (a + 1) ≡ 0 =
      λ h. eqb-true _ _ (implied (eqb (word ws a) Free || eqb (word ws a) Reachable) _ e₄.0 h) in
      let late : word ws a ≢ Retired → (eqb (word ws (a + 3)) 0 && eqb (word ws (a + 4)) 0) ≡ true =
      λ h. implied (not (eqb (word ws a) Retired)) _ e₅.0 (ap not (ne_eqb _ _ h)) in
      record {
        state = leb-true _ _ e₀.0;
        owner = ltb-true _ _ e₁.0;
        retired_at = leb-true _ _ e₂.0;
        limbo = leb-true _ _ e₃.0;
        free = λ h. (owner (rw (eq-eqb _ Free h)), eqb-true _ _ (implied (eqb (word ws a) Free) _ e₅.1 (eq-eqb _ _ h)));
        reachable = λ h. owner (rw (eq-eqb _ Reachable h, or-true));
        unretired = λ h. let z = both (eqb (word ws (a + 3)) 0) _ (late h) in (eqb-true _ _ z.0, eqb-true _ _ z.1);
      }

  node_test_lem : NodeFits p clock (node_from ws a) → node_fits p.processes clock ws a ≡ true
  unfolding node_fits
  node_test_lem f =
      let owner : (eqb (word ws a) Free || eqb (word ws a) Reachable) ≡ true → eqb (word ws (a + 1)) 0 ≡ true =
      λ h. eq-eqb _ _ (either _ _ h (λ e. (f.free (eqb-true _ _ e)).0) (λ e. f.reachable (eqb-true _ _ e))) in
      pass (le-leb _ _ f.state)
      (pass (lt-ltb _ _ f.owner)
      (pass (le-leb _ _ f.retired_at)
      (pass (le-leb _ _ f.limbo)
      (pass (imply (eqb (word ws a) Free || eqb (word ws a) Reachable) _ owner)
      (pass (imply _ _ (λ h. let z = f.unretired (eqb-false _ _ (not-true _ h)) in pass (eq-eqb _ _ z.0) (eq-eqb _ _ z.1)))
      (imply _ _ (λ h. eq-eqb _ _ (f.free (eqb-true _ _ h)).1)))))))

-- ---- all of them

module _ (p : Params) (clock : ℕ) (r : List ℕ) where
  node-is : (c : ℕ) → c < p.nodes → get_or (nodes_in p.nodes r) c free_node ≡ node_from r (node_width * c)
  node-is c h =
      unrows-at node_at node_width free_node p.nodes 0 c r h ∙ node_from_lem r (node_width * c) (0 + c * node_width) (omega arith)

  abbrev node_test : ℕ → Bool
  node_test c = node_fits p.processes clock r (node_width * c)

  pub nodes-facts : nodes_fit p.processes clock p.nodes r ≡ true → All (NodeFits p clock) (nodes_in p.nodes r)
  unfolding nodes_fit
  nodes-facts t =
      let m : length (nodes_in p.nodes r) ≡ p.nodes = length-unrows node_at node_width free_node p.nodes r in
      all_of (NodeFits p clock) free_node (nodes_in p.nodes r)
      (λ c l. let h : c < p.nodes = omega arith in
      rw (node-is c h) (node-facts p clock r (node_width * c) (all-at node_test p.nodes c t h)))

  pub nodes-test : All (NodeFits p clock) (nodes_in p.nodes r) → nodes_fit p.processes clock p.nodes r ≡ true
  unfolding nodes_fit
  nodes-test f =
      let m : length (nodes_in p.nodes r) ≡ p.nodes = length-unrows node_at node_width free_node p.nodes r in
      all_yes node_test p.nodes
      (λ c h. node_test_lem p clock r (node_width * c)
      (subst (λ n. NodeFits p clock n) (node-is c h)
      (F.all-at (NodeFits p clock) (nodes_in p.nodes r) c free_node f (omega arith))))
