-- Bytes with others before them read the same, at an offset that is pre much greater. Assumes nothing.
use Prim.Native.Nat.{ℕ, zero, suc, ◌+◌, ◌*◌, ◌≤◌}
use mathlib.Core.Bool.{Bool, true, false, ◌&&◌, cond}
use mathlib.Core.List.{List, ◌∷◌, ◌++◌}
use mathlib.Core.Path.{◌≡◌, refl, ap, sym, ◌∙◌}
use native.Mathlib.Omega.{arith}
use lib.ListN.{length, length-append}
use lib.Seq.{get_or-append-add}
use lib.Dec.{leb, eqb}
use borrow.Author.Tests.{le-leb, lt-leb, leb-true, leb-false}
use Rattle.layout.specs.Ranges.{in_range}
use Rattle.trace.specs.Bytes.{byte_at, word_at, mark_at, params_at, step_in, no_step, step_at, steps_from}
use Rattle.trace.specs.Trace.{given, ask, Trace, trace_at, trace_of, trailer_right, trailer_at, count_of}
use Rattle.trace.specs.Trace.{distance_of, start_of, params_of, first_of, steps_of, questioned}
use Rattle.trace.specs.Claims.{EarlierUnread}
use Rattle.trace.proofs.Opening.{Fits, trailer-fits, right-trailer}

module _ (pre bs : List ℕ) where
  long : length (pre ++ bs) ≡ length pre + length bs
  long = length-append pre bs

  pub byte-shifted : (i j : ℕ) → j ≡ length pre + i → byte_at (pre ++ bs) j ≡ byte_at bs i
  byte-shifted i j e = ap (byte_at (pre ++ bs)) e ∙ get_or-append-add pre bs i 0

  pub word-shifted : (i j : ℕ) → j ≡ length pre + i → word_at (pre ++ bs) j ≡ word_at bs i
  unfolding word_at
  word-shifted i j e =
      let a = byte-shifted i j e in
      let b = byte-shifted (i + 1) (j + 1) (omega arith) in
      let c = byte-shifted (i + 2) (j + 2) (omega arith) in
      let d = byte-shifted (i + 3) (j + 3) (omega arith) in
      λ t. a t + 256 * b t + 65536 * c t + 16777216 * d t

  pub mark-shifted : (i j : ℕ) → j ≡ length pre + i → mark_at (pre ++ bs) j ≡ mark_at bs i
  unfolding mark_at
  mark-shifted i j e =
      let a = byte-shifted i j e in
      let b = byte-shifted (i + 1) (j + 1) (omega arith) in
      let c = byte-shifted (i + 2) (j + 2) (omega arith) in
      let d = byte-shifted (i + 3) (j + 3) (omega arith) in
      λ t. eqb (a t) 81 && (eqb (b t) 66 && (eqb (c t) 65 && eqb (d t) 75))

  pub params-shifted : (i j : ℕ) → j ≡ length pre + i → params_at (pre ++ bs) j ≡ params_at bs i
  unfolding params_at
  params-shifted i j e =
      let a = word-shifted i j e in
      let b = word-shifted (i + 4) (j + 4) (omega arith) in
      let c = word-shifted (i + 8) (j + 8) (omega arith) in
      let d = word-shifted (i + 12) (j + 12) (omega arith) in
      let f = word-shifted (i + 16) (j + 16) (omega arith) in
      let g = word-shifted (i + 20) (j + 20) (omega arith) in
      let h = word-shifted (i + 24) (j + 24) (omega arith) in
      λ t.
      record {
        processes = a t;
        hazards = b t;
        nodes = c t;
        visibility_bound = d t;
        quiescence_threshold = f t;
        fallback_threshold = g t;
        lateness = h t;
      }

  step-in-shifted : (i j : ℕ) → j ≡ length pre + i → step_in (pre ++ bs) j ≡ step_in bs i
  unfolding step_in
  step-in-shifted i j e =
      let a = byte-shifted i j e in
      let b = byte-shifted (i + 1) (j + 1) (omega arith) in
      let c = byte-shifted (i + 2) (j + 2) (omega arith) in
      let d = word-shifted (i + 4) (j + 4) (omega arith) in
      let f = word-shifted (i + 8) (j + 8) (omega arith) in
      λ t. record { kind = a t; process = b t; hazard = c t; node = d t; guest = f t }

  inside-shifted : (i j : ℕ) → j ≡ length pre + i → leb (j + 12) (length (pre ++ bs)) ≡ leb (i + 12) (length bs)
  inside-shifted i j e = by (leb (i + 12) (length bs)) refl
    where
      by : (b : Bool) → leb (i + 12) (length bs) ≡ b → leb (j + 12) (length (pre ++ bs)) ≡ b
      by true h = le-leb (j + 12) (length (pre ++ bs)) (omega (arith, long, leb-true (i + 12) (length bs) h))
      by false h = lt-leb (j + 12) (length (pre ++ bs)) (omega (arith, long, leb-false (i + 12) (length bs) h))

  pub step-shifted : (i j : ℕ) → j ≡ length pre + i → step_at (pre ++ bs) j ≡ step_at bs i
  unfolding step_at
  step-shifted i j e =
      let a = inside-shifted i j e in
      let b = step-in-shifted i j e in
      λ t. cond (a t) (b t) no_step

  pub steps-shifted : (n i j : ℕ) → j ≡ length pre + i → steps_from (pre ++ bs) j n ≡ steps_from bs i n
  unfolding steps_from
  steps-shifted zero i j e = refl
  steps-shifted (suc n) i j e =
      let a = step-shifted i j e in
      let b = steps-shifted n (i + 12) (j + 12) (omega arith) in
      λ t. a t ∷ b t

  -- ---- a trace

  module _ (right : trailer_right bs ≡ true) where
    fits : Fits bs
    fits = trailer-fits bs right

    same_count : count_of (pre ++ bs) ≡ count_of bs
    same_count = word-shifted (trailer_at bs) (trailer_at (pre ++ bs)) (omega (arith, long, fits.room))

    same-distance : distance_of (pre ++ bs) ≡ distance_of bs
    same-distance = word-shifted (trailer_at bs + 4) (trailer_at (pre ++ bs) + 4) (omega (arith, long, fits.room))

    same_start : start_of (pre ++ bs) ≡ length pre + start_of bs
    same_start = omega (arith, long, same-distance, fits.inside)

    same_params : params_of (pre ++ bs) ≡ params_of bs
    same_params = params-shifted (start_of bs) (start_of (pre ++ bs)) same_start

    same-steps : steps_of (pre ++ bs) ≡ steps_of bs
    same-steps =
        ap (steps_from (pre ++ bs) (first_of (pre ++ bs))) same_count
        ∙ steps-shifted (count_of bs) (first_of bs) (first_of (pre ++ bs)) (omega (arith, same_start))

    right-shifted : trailer_right (pre ++ bs) ≡ true
    right-shifted =
        right-trailer
        (pre ++ bs)
        (record {
          room = omega (arith, long, fits.room);
          mark = mark-shifted (trailer_at bs + 8) (trailer_at (pre ++ bs) + 8) (omega (arith, long, fits.room)) ∙ fits.mark;
          distance = omega (arith, same_count, same-distance, fits.distance);
          inside = omega (arith, long, same-distance, fits.inside);
        })

-- ---- only the last question is left

settled : (bs : List ℕ) → length bs ≤ 65536 → trailer_right bs ≡ true
    → trace_of bs ≡ ask (in_range (params_of bs)) 1 (given (trace_at bs))
unfolding trace_of questioned
settled bs h t = rw (le-leb (length bs) 65536 h, t)

pub earlier-unread : EarlierUnread
earlier-unread pre bs right h =
    settled (pre ++ bs) h (right-shifted pre bs right)
    ∙ ap (λ (t : Trace). ask (in_range t.params) 1 (given t)) same
    ∙ sym (settled bs (omega (arith, long pre bs)) right)
  where
    same : trace_at (pre ++ bs) ≡ trace_at bs
    same = let p = same_params pre bs right in let s = same-steps pre bs right in λ t. record { params = p t; steps = s t }
