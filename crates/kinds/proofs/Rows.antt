-- The numbers of the kinds, and those that are none's. Assumes nothing.
use Prim.Native.Nat.{ℕ, zero, suc, ◌<◌, ◌≤◌}
use mathlib.Core.Bool.{Bool, true, false, not, ◌&&◌}
use mathlib.Core.Logic.{◌≢◌}
use mathlib.Core.Path.{◌≡◌, refl, sym, ◌∙◌}
use native.Mathlib.Omega.{arith}
use native.Mathlib.Nat.{zero-lt-suc}
use borrow.Author.Tests.{lt-leb, ltb-true, ltb-false}
use lib.Arith.{lt_of_le-ne}
use lib.ListN.{get_or-eq_default}
use lib.Dec.{leb, ltb}
use Rattle.lists.specs.Table.{table_from}
use Rattle.lists.proofs.Table.{table_at}
use Rattle.model.specs.Kinds.{kinds, kind_count, kind_of, is}
use Rattle.model.specs.Kinds.{Unknown}

-- more than i and not the next
past : {i n : ℕ} → i < n → n ≢ suc i → suc i < n
past h d = lt_of_le-ne h (λ e. d (sym e))

-- past the last number there is no kind
pub unknown : (n : ℕ) → kind_count < n → kind_of n ≡ Unknown
unknown zero h = refl
unknown (suc n) h = let over : kind_count ≤ n = omega arith in get_or-eq_default kinds Unknown over

-- a number that is none of the kinds'
pub none_of : (n : ℕ) → n ≢ 1 → n ≢ 2 → n ≢ 3 → n ≢ 4 → n ≢ 5 → n ≢ 6 → n ≢ 7 → n ≢ 8 → n ≢ 9 → n ≢ 10 → n ≢ 11 → n ≢ 12 → n ≢ 13
    → n ≢ 14 → n ≢ 15 → n ≢ 16 → n ≢ 17 → kind_of n ≡ Unknown
none_of zero h1 h2 h3 h4 h5 h6 h7 h8 h9 h10 h11 h12 h13 h14 h15 h16 h17 = refl
none_of (suc n) h1 h2 h3 h4 h5 h6 h7 h8 h9 h10 h11 h12 h13 h14 h15 h16 h17 =
    unknown (suc n)
    (past (past (past (past (past (past (past (past (past (past (past (past (past (past (past (past (past (zero-lt-suc n)
    h1) h2) h3) h4) h5) h6) h7) h8) h9) h10) h11) h12) h13) h14) h15) h16) h17)

-- the numbers of the kinds are 1 to the last
pub known_is : (n : ℕ) → (leb 1 n && leb n kind_count) ≡ not (is (kind_of n) Unknown)
known_is n = by (ltb n (suc kind_count)) refl
  where
    by : (b : Bool) → ltb n (suc kind_count) ≡ b → (leb 1 n && leb n kind_count) ≡ not (is (kind_of n) Unknown)
    by true e =
        let few : n < suc kind_count = ltb-true n (suc kind_count) e in
        let f : ℕ → Bool = λ i. leb 1 i && leb i kind_count in
        let g : ℕ → Bool = λ i. not (is (kind_of i) Unknown) in
        let t = table_from f 0 (suc kind_count) in
        sym (table_at f t (suc kind_count) n true refl few) ∙ table_at g t (suc kind_count) n true refl few
    by false e =
        let many : suc kind_count ≤ n = ltb-false n (suc kind_count) e in
        rw (unknown n (omega arith), lt-leb n kind_count (omega arith)) (no_more (leb 1 n))
      where
        no_more : (b : Bool) → (b && false) ≡ false
        no_more true = refl
        no_more false = refl
