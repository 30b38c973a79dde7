-- The steps of a trace, one by one, and the front that leads to them. Assumes nothing.
use Prim.Native.Nat.{ℕ, zero, suc, ◌+◌, ◌*◌, ◌-◌, ◌≤◌, ◌<◌}
use mathlib.Core.Bool.{Bool, true, false}
use mathlib.Core.List.{List}
use mathlib.Core.Path.{◌≡◌, refl, sym, ap, ◌∙◌}
use native.Mathlib.Omega.{arith}
use lib.ListN.{length, get_or}
use lib.Dec.{leb}
use borrow.Author.Tests.{le-leb, leb-true}
use Rattle.layout.specs.Ranges.{in_range}
use Rattle.trace.specs.Widths.{params_size}
use Rattle.trace.specs.Bytes.{no_step, step_at, steps_from}
use Rattle.trace.specs.Trace.{given, ask, Front, front_at, front_of, Trace, trace_at, trace_of, trailer_right}
use Rattle.trace.specs.Trace.{count_of, distance_of, params_of, questioned}
use Rattle.trace.specs.Claims.{trace_from, FrontLeads, StepsInTurn}
use Rattle.trace.proofs.Opening.{step-inside, Fits, trailer-fits}

-- ---- so many steps from i on

pub steps-many : (bs : List ℕ) (i n : ℕ) → length (steps_from bs i n) ≡ n
unfolding steps_from
steps-many bs i zero = refl
steps-many bs i (suc n) = ap suc (steps-many bs (i + 12) n)

pub steps-each : (bs : List ℕ) (i n j : ℕ) → j < n → get_or (steps_from bs i n) j no_step ≡ step_at bs (i + 12 * j)
unfolding steps_from
steps-each bs i zero j h = absurd (omega arith)
steps-each bs i (suc n) zero h = let e : i ≡ i + 12 * 0 = omega arith in ap (step_at bs) e
steps-each bs i (suc n) (suc j) h =
    let e : i + 12 + 12 * j ≡ i + 12 * suc j = omega arith in
    steps-each bs (i + 12) n j (omega arith) ∙ ap (step_at bs) e

-- ---- the front leads to the trace

asked-alike : (bs : List ℕ) (l t r : Bool)
    → ask l 18 (ask t 19 (ask r 1 (given (trace_at bs))))
    ≡ trace_from bs (ask l 18 (ask t 19 (ask r 1 (given (front_at bs)))))
asked-alike bs false t r = refl
asked-alike bs true false r = refl
asked-alike bs true true false = refl
asked-alike bs true true true = refl

pub front-leads : FrontLeads
unfolding trace_of front_of questioned
front-leads bs = asked-alike bs (leb (length bs) 65536) (trailer_right bs) (in_range (params_of bs))

-- ---- what was found was asked for

pub record Passed (bs : List ℕ) (f : Front) : Type 0 where
  pub short : length bs ≤ 65536
  pub right : trailer_right bs ≡ true
  pub range : in_range f.params ≡ true
  pub front : front_at bs ≡ f

passed-by : (bs : List ℕ) (f : Front) (l t r : Bool) → leb (length bs) 65536 ≡ l → trailer_right bs ≡ t → in_range (params_of bs) ≡ r
    → ask l 18 (ask t 19 (ask r 1 (given (front_at bs)))) ≡ given f → Passed bs f
passed-by bs f false t r p q s e = absurd (let z : ◌≡◌ {A = ℕ} 0 1 = cc in omega arith)
passed-by bs f true false r p q s e = absurd (let z : ◌≡◌ {A = ℕ} 0 1 = cc in omega arith)
passed-by bs f true true false p q s e = absurd (let z : ◌≡◌ {A = ℕ} 0 1 = cc in omega arith)
passed-by bs f true true true p q s e =
    let same : front_at bs ≡ f = cc in
    record {
      short = leb-true (length bs) 65536 p;
      right = q;
      range = sym (ap (λ (x : Front). in_range x.params) same) ∙ s;
      front = same;
    }

pub passed : (bs : List ℕ) (f : Front) → front_of bs ≡ given f → Passed bs f
unfolding front_of questioned
passed bs f e = passed-by bs f (leb (length bs) 65536) (trailer_right bs) (in_range (params_of bs)) refl refl refl e

pub steps-in-turn : StepsInTurn
steps-in-turn bs f e = (
  t,
  front-leads bs ∙ ap (trace_from bs) e,
  record {
    params = refl;
    many = steps-many bs f.first f.count;
    each = steps-each bs f.first f.count;
    whole = λ j h. step-inside bs (f.first + 12 * j) (le-leb (f.first + 12 * j + 12) (length bs) (omega (arith, ends)));
    ends = ends;
    short = (passed bs f e).short;
    room = omega (arith, first, ends);
    few = omega (arith, first, ends, (passed bs f e).short);
  },
)
  where
    t : Trace
    t = record { params = f.params; steps = steps_from bs f.first f.count }

    fits : Fits bs
    fits = trailer-fits bs (passed bs f e).right

    first : length bs - distance_of bs + params_size ≡ f.first
    first = ap (λ (x : Front). x.first) (passed bs f e).front

    count : count_of bs ≡ f.count
    count = ap (λ (x : Front). x.count) (passed bs f e).front

    ends : f.first + 12 * f.count + 12 ≡ length bs
    ends = omega (arith, first, count, fits.distance, fits.inside)
