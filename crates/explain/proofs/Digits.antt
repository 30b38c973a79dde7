-- Digits read one after another: what is known of the first i, and what the bytes are a number of. Assumes nothing.
use Prim.Native.Nat.{ℕ, suc, ◌+◌, ◌*◌, ◌-◌, ◌^◌, ◌≤◌, ◌<◌}
use mathlib.Core.Bool.{Bool, true, false, ◌&&◌, cond, false≢true}
use mathlib.Core.List.{List}
use mathlib.Core.Path.{◌≡◌, refl, sym, ap, ◌∙◌}
use native.Mathlib.Nat.{pow-suc, pow-le-pow_right}
use native.Mathlib.Numerals.{add-one}
use native.Mathlib.Omega.{arith}
use lib.ListN.{length, drop, get_or}
use lib.Seq.{drop-cons, drop-length}
use lib.Dec.{leb}
use borrow.Author.Tests.{le-leb, leb-true}
use Rattle.lists.specs.Tests.{every}
use Rattle.lists.proofs.Bools.{both}
use Rattle.lists.proofs.Tested.{Tested, tested-none, tested-more, tested-all}
use Rattle.explain.specs.Number.{is_digit, digits_from, number_in}
use Rattle.std.specs.Prelude.{Some, None}

pub digit-is : (b : ℕ) → is_digit b ≡ true → (48 ≤ b) × (b ≤ 57)
digit-is b e =
    let p = both (leb 48 b) (leb b 57) e in
    (leb-true 48 b p.0, leb-true b 57 p.1)

-- ---- what the bytes are a number of

none-by : (a b c : Bool) (n : ℕ) → (a ≡ true → b ≡ true → c ≡ true → ⊥) → None ≡ cond (a && (b && c)) (Some n) None
none-by true true true n h = absurd (h refl refl refl)
none-by true true false n h = refl
none-by true false c n h = refl
none-by false b c n h = refl

pub no_number : (bs : List ℕ) → (1 ≤ length bs → length bs ≤ 9 → every is_digit bs ≡ true → ⊥) → None ≡ number_in bs
unfolding number_in
no_number bs h =
    none-by (leb 1 (length bs)) (leb (length bs) 9) (every is_digit bs) _ (λ e f g. h (leb-true 1 (length bs) e) (leb-true (length bs) 9 f) g)

a-number : (bs : List ℕ) → 1 ≤ length bs → length bs ≤ 9 → every is_digit bs ≡ true → Some (digits_from 0 bs) ≡ number_in bs
unfolding number_in
a-number bs h k e = rw (le-leb 1 (length bs) h, le-leb (length bs) 9 k, e)

-- ---- the first i are digits, and n is their number

pub record Digits (bs : List ℕ) (i n : ℕ) : Type 0 where
  pub digits : Tested is_digit bs i true
  pub number : digits_from n (drop i bs) ≡ digits_from 0 bs
  pub small : n < 10 ^ i

pub no-digits : (bs : List ℕ) → Digits bs 0 0
no-digits bs = record { digits = tested-none; number = refl; small = omega arith }

-- eight digits and fewer
pub room : (bs : List ℕ) (i n : ℕ) → Digits bs i n → i < 9 → n < 100000000
room bs i n d h =
    let p : 10 ^ i ≤ 10 ^ 8 = pow-le-pow_right (omega arith) {j = 8} (omega arith) in
    omega (arith, d.small)

pub digits_more : (bs : List ℕ) (i n m : ℕ) → Digits bs i n → i < length bs → is_digit (get_or bs i 0) ≡ true → m ≡ 10 * n + (get_or bs i 0 - 48)
    → Digits bs (i + 1) m
digits_more bs i n m d h e f =
    let s = digit-is (get_or bs i 0) e in
    let p : 10 ^ suc i ≡ 10 ^ i * 10 = pow-suc 10 i in
    record {
      digits = tested-more 0 d.digits h (sym e);
      number = rw (add-one, f) (ap (digits_from n) (sym (drop-cons bs i 0 h)) ∙ d.number);
      small = rw add-one (omega (arith, d.small));
    }

-- a byte that is no digit
pub spoilt : (bs : List ℕ) (i n : ℕ) → Digits bs i n → i < length bs → is_digit (get_or bs i 0) ≡ false → None ≡ number_in bs
spoilt bs i n d h e = no_number bs (λ _ _ g. false≢true ((tested-more {q = false} 0 d.digits h (sym e)).rest ∙ g))

-- all of them
pub all_read : (bs : List ℕ) (i n : ℕ) → Digits bs i n → 1 ≤ length bs → length bs ≤ 9 → i ≡ length bs → Some n ≡ number_in bs
all_read bs i n d h k e =
    ap Some (sym (ap (digits_from n) (drop-length bs)) ∙ (rw e at d.number)) ∙ a-number bs h k (sym (tested-all d.digits e))
