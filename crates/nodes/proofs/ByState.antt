-- A node within the limits of its state is one that fits. Assumes nothing.
use Prim.Native.Nat.{ℕ, zero, suc, ◌+◌, ◌-◌, ◌*◌, ◌≤◌, ◌<◌}
use mathlib.Core.Bool.{Bool, true, false, not, ◌&&◌, ◌||◌, and_assoc, and-true, and-false}
use mathlib.Core.List.{List}
use mathlib.Core.Path.{◌≡◌, refl, sym, ap, ◌∙◌}
use native.Mathlib.Omega.{arith}
use native.Mathlib.Nat.{add-zero, add_assoc}
use borrow.Author.Tests.{lt-ltb, le-leb, lt-leb}
use lib.Dec.{leb, ltb, eqb, leb-zero, leb-suc-zero, eqb-suc-zero}
use Rattle.lists.specs.Tests.{implies}
use Rattle.lists.proofs.Upto.{also-none, also-more, all-no}
use Rattle.model.specs.Params.{node_width}
use Rattle.model.specs.State.{Retired}
use Rattle.layout.specs.Shape.{word}
use Rattle.layout.specs.Nodes.{node_fits, nodes_fit}
use Rattle.nodes.specs.Part.{node_in, Part}
use Rattle.nodes.proofs.Words.{word_at}
use Rattle.limits.specs.Limits.{turned, within, any_word}
use Rattle.nodes.specs.NodeLimits.{node_limits, in_limits, NodesFit}
use Rattle.limits.proofs.Tests.{below, only_zero, turned-back}

-- the five words against the row of the state, and by the paper's clauses
module _ (n clock : ℕ) where
  abbrev by_row : ℕ → ℕ → ℕ → ℕ → ℕ → Bool
  by_row s o g t l =
      leb o (turned (word (node_limits (n - 1) clock) (s * 4)))
      && (leb g (turned (word (node_limits (n - 1) clock) (s * 4 + 1)))
      && (leb t (turned (word (node_limits (n - 1) clock) (s * 4 + 2)))
      && leb l (turned (word (node_limits (n - 1) clock) (s * 4 + 3)))))

  abbrev as_clauses : ℕ → ℕ → ℕ → ℕ → ℕ → Bool
  as_clauses s o g t l =
      leb s 4
      && (ltb o n
      && (leb t clock
      && (leb l 2
      && (implies (eqb s 0 || eqb s 2) (eqb o 0)
      && (implies (not (eqb s 4)) (eqb t 0 && eqb l 0)
      && implies (eqb s 0) (eqb g 0))))))

  -- 0 is below n
  no-owner : (o : ℕ) → 1 ≤ n → leb o 0 ≡ (ltb o n && eqb o 0)
  no-owner zero h = rw (lt-ltb 0 n h)
  no-owner (suc o) h = rw (leb-suc-zero o, eqb-suc-zero o, and-false (ltb (suc o) n))

  -- not Retired
  unstamped : (t l : ℕ) (a b c : Bool)
      → ((a && b) && (c && (leb t 0 && leb l 0))) ≡ (a && (leb t clock && (leb l 2 && (b && (eqb t 0 && eqb l 0 && c)))))
  unstamped zero zero a b c = rw (leb-zero clock) (simp (and-true, and_assoc))
  unstamped zero (suc l) a b c = simp (leb-suc-zero, eqb-suc-zero, and-false)
  unstamped (suc t) l a b c = simp (leb-suc-zero, eqb-suc-zero, and-false)

  module _ (hn : 1 ≤ n) (hl : n - 1 ≤ any_word) (hc : clock ≤ any_word) where
    z₀ : turned (turned 0) ≡ 0
    z₀ = turned-back 0 (omega arith)

    z₂ : turned (turned 2) ≡ 2
    z₂ = turned-back 2 (omega arith)

    zₐ : turned (turned any_word) ≡ any_word
    zₐ = turned-back any_word (omega arith)

    zₗ : turned (turned (n - 1)) ≡ n - 1
    zₗ = turned-back (n - 1) hl

    zₜ : turned (turned clock) ≡ clock
    zₜ = turned-back clock hc

    by_state : (s o g t l : ℕ) → g ≤ any_word → s ≤ 4 → by_row s o g t l ≡ as_clauses s o g t l
    by_state zero o g t l k few = rw (z₀, no-owner o hn, only_zero g) (unstamped t l (ltb o n) (eqb o 0) (eqb g 0))
    by_state (suc zero) o g t l k few =
        rw (zₗ, zₐ, z₀, below o n hn, le-leb g any_word k) (simp and-true (simp and-true at (unstamped t l (ltb o n) true true)))
    by_state (suc (suc zero)) o g t l k few =
        rw (zₐ, z₀, no-owner o hn, le-leb g any_word k) (unstamped t l (ltb o n) (eqb o 0) true)
    by_state (suc (suc (suc zero))) o g t l k few =
        rw (zₗ, zₐ, z₀, below o n hn, le-leb g any_word k) (simp and-true (simp and-true at (unstamped t l (ltb o n) true true)))
    by_state (suc (suc (suc (suc zero)))) o g t l k few =
        rw (zₗ, zₐ, zₜ, z₂, below o n hn, le-leb g any_word k) (simp and-true)
    by_state (suc (suc (suc (suc (suc s))))) o g t l k few = absurd (omega arith)

-- a node of one of the five states is within its limits just where it fits, and one of another state does not fit
module _ (n clock : ℕ) {m : ℕ} {r : List ℕ} (h : Part m r) (c : ℕ) (l : c < m) where
  abbrev a₀ : ℕ
  a₀ = node_width * c

  state-is : (node_in m r c).state ≡ word r a₀
  state-is = sym (word_at h l refl 0 (omega arith)) ∙ ap (λ (i : ℕ). word r i) (add-zero a₀)

  node_fits_lem : 1 ≤ n → n - 1 ≤ any_word → clock ≤ any_word → word r (a₀ + 2) ≤ any_word → (node_in m r c).state ≤ Retired
      → in_limits (node_limits (n - 1) clock) m r c ≡ node_fits n clock r a₀
  unfolding within node_fits
  node_fits_lem hn hl hc k few =
      rw
      (state-is, add_assoc a₀ 1 1, add_assoc a₀ 1 2, add_assoc a₀ 1 3)
      (by_state n clock hn hl hc (word r a₀) (word r (a₀ + 1)) (word r (a₀ + 2)) (word r (a₀ + 3)) (word r (a₀ + 4)) k (rw state-is at few))

  pub node-unfit : Retired < (node_in m r c).state → node_fits n clock r a₀ ≡ false
  unfolding node_fits
  node-unfit many = rw (lt-leb (word r a₀) Retired (rw state-is at many))

-- ---- the loop over the nodes: its start, a turn, and its two ends

module _ (x : Bool) (r ls : List ℕ) where
  pub nodes_start_lem : NodesFit x 0 r ls x
  unfolding nodes_fit
  nodes_start_lem n clock _ _ _ _ = also-none _ x

  pub nodes-turn : {m i : ℕ} {y z : Bool} → Part m r → i < m → (node_in m r i).state ≤ Retired → ((j : ℕ) → word r j ≤ any_word)
      → NodesFit x i r ls y → z ≡ (y && in_limits ls m r i) → NodesFit x (i + 1) r ls z
  unfolding nodes_fit
  nodes-turn {m} {i} {y} {z} h l few k hy hz n clock hn hl hc e =
      let fits : in_limits ls m r i ≡ node_fits n clock r (node_width * i) =
      ap (λ (t : List ℕ). in_limits t m r i) e ∙ node_fits_lem n clock h i l hn (omega arith) hc (k (node_width * i + 2)) few in
      also-more (λ c. node_fits n clock r (node_width * c)) i x y z (hy n clock hn hl hc e) (hz ∙ ap (λ (b : Bool). y && b) fits)

  pub nodes-stop : {m i : ℕ} → Part m r → i < m → Retired < (node_in m r i).state → NodesFit x m r ls false
  unfolding nodes_fit
  nodes-stop {m} {i} h l many n clock _ _ _ _ =
      sym
      (ap (λ (b : Bool). x && b) (all-no (λ c. node_fits n clock r (node_width * c)) m i l (node-unfit n clock h i l many)) ∙ and-false x)

  pub nodes-end : {m i : ℕ} {y z : Bool} → i ≡ m → NodesFit x i r ls y → z ≡ y → NodesFit x m r ls z
  nodes-end {z = z} ei hy hz n clock hn hl hc e = hz ∙ hy n clock hn hl hc e ∙ ap (λ (i : ℕ). x && nodes_fit n clock i r) ei
