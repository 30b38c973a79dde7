-- The questions of a trace one by one: what each answer gives, and the room that a right trailer has. Assumes nothing.
use Prim.Native.Nat.{ℕ, suc, ◌+◌, ◌*◌, ◌-◌, ◌≤◌, ◌<◌}
use mathlib.Core.Bool.{Bool, true, false, ◌&&◌}
use mathlib.Core.List.{List, [], ◌∷◌}
use mathlib.Core.Path.{◌≡◌, refl, sym, ap, ◌∙◌}
use native.Mathlib.Omega.{arith}
use lib.ListN.{length, get_or, take, drop}
use Rattle.std.specs.List.{starts_with}
use Rattle.std.proofs.lemmas.List.{take_all, length-drop}
use Rattle.std.proofs.Math.Bool.{and-true}
use Rattle.std.proofs.Math.Seq.{drop-cons}
use lib.Dec.{leb, eqb}
use borrow.Author.Tests.{le-leb, lt-leb, leb-true, leb-false, eqb-true, eq-eqb}
use Rattle.lists.proofs.Bools.{both}
use Rattle.layout.specs.Ranges.{in_range}
use Rattle.trace.specs.Widths.{step_size, least_size}
use Rattle.trace.specs.Bytes.{byte_at, mark_at, step_in, no_step, step_at}
use Rattle.trace.specs.Trace.{refused, given, trailer_at, count_of, distance_of, trailer_right, params_of}
use Rattle.trace.specs.Trace.{questioned}

-- ---- an offset

-- so many bytes from a on: a is at most what the length leaves
pub leb-sub : (a s n : ℕ) → s ≤ n → leb a (n - s) ≡ leb (a + s) n
leb-sub a s n h = by (leb (a + s) n) refl
  where
    by : (b : Bool) → leb (a + s) n ≡ b → leb a (n - s) ≡ b
    by true e = le-leb a (n - s) (omega (arith, leb-true (a + s) n e))
    by false e = lt-leb a (n - s) (omega (arith, leb-false (a + s) n e))

pub step-inside : (bs : List ℕ) (i : ℕ) → leb (i + 12) (length bs) ≡ true → step_at bs i ≡ step_in bs i
unfolding step_at
step-inside bs i h = rw h

pub step-outside : (bs : List ℕ) (i : ℕ) → leb (i + 12) (length bs) ≡ false → step_at bs i ≡ no_step
unfolding step_at
step-outside bs i h = rw h

-- ---- the mark

follows : (bs : List ℕ) (i j : ℕ) → j ≡ suc i → i < length bs → drop i bs ≡ get_or bs i 0 ∷ drop j bs
follows bs i j e h = drop-cons bs i 0 h ∙ ap (λ n. get_or bs i 0 ∷ drop n bs) (sym e)

swapped : (x y : ℕ) → eqb x y ≡ eqb y x
swapped x y = grind arith

-- what begins with QBAK from a on
pub begins : (bs : List ℕ) (a : ℕ) → a + 4 ≤ length bs
    → starts_with eqb (take (length bs - a) (drop a bs)) (81 ∷ 66 ∷ 65 ∷ 75 ∷ []) ≡ mark_at bs a
unfolding mark_at
begins bs a h =
    let all = take_all (length bs - a) (drop a bs) (omega (arith, length-drop a bs)) in
    let p = follows bs a (a + 1) (omega arith) (omega arith) in
    let q = follows bs (a + 1) (a + 2) (omega arith) (omega arith) in
    let r = follows bs (a + 2) (a + 3) (omega arith) (omega arith) in
    let s = follows bs (a + 3) (a + 4) (omega arith) (omega arith) in
    rw (all, p, q, r, s) (simp and-true (λ t. swapped 81 (byte_at bs a) t && (swapped 66 (byte_at bs (a + 1)) t && (swapped 65 (byte_at bs (a + 2)) t && swapped 75 (byte_at bs (a + 3)) t))))

-- ---- the trailer

pub no_room : (bs : List ℕ) → length bs < 12 → trailer_right bs ≡ false
unfolding trailer_right
no_room bs h = rw (lt-leb 12 (length bs) h)

-- the tests after the first are the code's: m its mark, d its distance, k what the distance is to be
pub trailer-tests : (bs : List ℕ) (m : Bool) (d k : ℕ) → 12 ≤ length bs → m ≡ mark_at bs (trailer_at bs + 8) → d ≡ distance_of bs
    → k ≡ least_size + step_size * count_of bs → (m && (eqb d k && leb d (length bs))) ≡ trailer_right bs
unfolding trailer_right
trailer-tests bs m d k h p q r = rw (p, q, r, le-leb 12 (length bs) h)

-- what a right trailer says
pub record Fits (bs : List ℕ) : Type 0 where
  pub room : 12 ≤ length bs
  pub mark : mark_at bs (trailer_at bs + 8) ≡ true
  pub distance : distance_of bs ≡ least_size + step_size * count_of bs
  pub inside : distance_of bs ≤ length bs

pub trailer-fits : (bs : List ℕ) → trailer_right bs ≡ true → Fits bs
unfolding trailer_right
trailer-fits bs h =
    let l : Bool = leb 12 (length bs) in
    let m : Bool = mark_at bs (trailer_at bs + 8) in
    let d : Bool = eqb (distance_of bs) (least_size + step_size * count_of bs) in
    let i : Bool = leb (distance_of bs) (length bs) in
    let a = both l (m && (d && i)) h in
    let b = both m (d && i) a.1 in
    let c = both d i b.1 in
    record {
      room = leb-true 12 (length bs) a.0;
      mark = b.0;
      distance = eqb-true (distance_of bs) (least_size + step_size * count_of bs) c.0;
      inside = leb-true (distance_of bs) (length bs) c.1;
    }

-- and back
pub right-trailer : (bs : List ℕ) → Fits bs → trailer_right bs ≡ true
right-trailer bs f =
    sym
    (trailer-tests bs true (distance_of bs) (least_size + step_size * count_of bs) f.room (sym f.mark) refl refl)
    ∙ rw
    (eq-eqb (distance_of bs) (least_size + step_size * count_of bs) f.distance, le-leb (distance_of bs) (length bs) f.inside)

-- ---- the three questions

module _ {A : Type 0} (bs : List ℕ) (a : A) where
  pub too_long : 65536 < length bs → questioned bs a ≡ refused 18
  unfolding questioned
  too_long h = rw (lt-leb (length bs) 65536 h)

  module _ (h : length bs ≤ 65536) where
    pub no-trailer : trailer_right bs ≡ false → questioned bs a ≡ refused 19
    unfolding questioned
    no-trailer e = rw (le-leb (length bs) 65536 h, e)

    module _ (t : trailer_right bs ≡ true) where
      pub out_of_range : in_range (params_of bs) ≡ false → questioned bs a ≡ refused 1
      unfolding questioned
      out_of_range e = rw (le-leb (length bs) 65536 h, t, e)

      pub opens : in_range (params_of bs) ≡ true → questioned bs a ≡ given a
      unfolding questioned
      opens e = rw (le-leb (length bs) 65536 h, t, e)
