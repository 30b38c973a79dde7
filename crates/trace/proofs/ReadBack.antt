-- A trace that is written is read back. Assumes nothing.
use Prim.Native.Nat.{ℕ, ◌+◌, ◌*◌, ◌/◌, ◌%◌, ◌≤◌, ◌<◌}
use mathlib.Core.Bool.{true}
use mathlib.Core.List.{List, [], ◌∷◌, ◌++◌, append_assoc}
use mathlib.Core.Path.{◌≡◌, refl, ap, sym, ◌∙◌}
use native.Mathlib.Omega.{arith}
use lib.ListN.{length, length-append}
use borrow.Author.Tests.{le-leb}
use Rattle.lists.specs.Tests.{All}
use Rattle.model.specs.Params.{Params}
use Rattle.model.specs.State.{Step}
use Rattle.layout.specs.Ranges.{in_range}
use Rattle.layout.proofs.Ranges.{in_range_lem}
use Rattle.trace.specs.Widths.{params_size, step_size, least_size}
use Rattle.trace.specs.Bytes.{word_at, mark_at, params_at, step_in, step_at, steps_from}
use Rattle.trace.specs.Trace.{given, Trace, trace_at, trace_of, trailer_at, count_of, distance_of, trailer_right}
use Rattle.trace.specs.Trace.{start_of}
use Rattle.trace.specs.Trace.{params_of, first_of, steps_of}
use Rattle.trace.specs.Written.{word_bytes, params_bytes, step_bytes, steps_bytes, trailer_bytes, trace_bytes}
use Rattle.trace.specs.Written.{StepFits}
use Rattle.trace.specs.Claims.{WrittenRead, GreatestRead}
use Rattle.trace.proofs.Opening.{step-inside, right-trailer, opens}
use Rattle.trace.proofs.Shifted.{word-shifted, mark-shifted, steps-shifted}

-- ---- a number

four : (n : ℕ) → n < 4294967296
    → n % 256 + 256 * (n / 256 % 256) + 65536 * (n / 256 / 256 % 256) + 16777216 * (n / 256 / 256 / 256 % 256) ≡ n
four n h = omega arith

-- ---- parameters

pub record Small (a : Params) : Type 0 where
  pub processes : a.processes < 4294967296
  pub hazards : a.hazards < 4294967296
  pub nodes : a.nodes < 4294967296
  pub visibility_bound : a.visibility_bound < 4294967296
  pub quiescence_threshold : a.quiescence_threshold < 4294967296
  pub fallback_threshold : a.fallback_threshold < 4294967296
  pub lateness : a.lateness < 4294967296

params-back : (a : Params) (rest : List ℕ) → Small a → params_at (params_bytes a ++ rest) 0 ≡ a
unfolding params_at params_bytes word_at word_bytes
params-back a rest h =
    λ t.
    record {
      processes = four a.processes h.processes t;
      hazards = four a.hazards h.hazards t;
      nodes = four a.nodes h.nodes t;
      visibility_bound = four a.visibility_bound h.visibility_bound t;
      quiescence_threshold = four a.quiescence_threshold h.quiescence_threshold t;
      fallback_threshold = four a.fallback_threshold h.fallback_threshold t;
      lateness = four a.lateness h.lateness t;
    }

-- ---- steps

step-in-back : (s : Step) (rest : List ℕ) → StepFits s → step_in (step_bytes s ++ rest) 0 ≡ s
unfolding step_in step_bytes word_at word_bytes
step-in-back s rest h =
    let n = four s.node h.3 in
    let g = four s.guest h.4 in
    λ t. record { kind = s.kind; process = s.process; hazard = s.hazard; node = n t; guest = g t }

step-long : (s : Step) → length (step_bytes s) ≡ 12
unfolding step_bytes word_bytes
step-long s = refl

step_back : (s : Step) (rest : List ℕ) → StepFits s → step_at (step_bytes s ++ rest) 0 ≡ s
step_back s rest h =
    step-inside (step_bytes s ++ rest) 0 (le-leb (0 + 12) (length (step_bytes s ++ rest)) (omega (arith, step-long s, length-append (step_bytes s) rest)))
    ∙ step-in-back s rest h

steps-long : (ss : List Step) → length (steps_bytes ss) ≡ 12 * length ss
unfolding steps_bytes
steps-long [] = refl
steps-long (s ∷ ss) = omega (arith, length-append (step_bytes s) (steps_bytes ss), step-long s, steps-long ss)

steps_back : (ss : List Step) (rest : List ℕ) → All StepFits ss → steps_from (steps_bytes ss ++ rest) 0 (length ss) ≡ ss
unfolding steps_from steps_bytes
steps_back [] rest h = refl
steps_back (s ∷ ss) rest h =
    let first = step_back s (steps_bytes ss ++ rest) h.0 in
    let same = steps-shifted (step_bytes s) (steps_bytes ss ++ rest) (length ss) 0 (0 + 12) (omega (arith, step-long s)) in
    let others = same ∙ steps_back ss rest h.1 in
    ap (λ (bs : List ℕ). steps_from bs 0 (length (s ∷ ss))) (append_assoc (step_bytes s) (steps_bytes ss) rest) ∙ (λ t. first t ∷ others t)

-- ---- the trailer

mark-back : (n : ℕ) → mark_at (trailer_bytes n) 8 ≡ true
unfolding mark_at trailer_bytes word_bytes
mark-back n = refl

count-back : (n : ℕ) → n < 4294967296 → word_at (trailer_bytes n) 0 ≡ n
unfolding word_at trailer_bytes word_bytes
count-back n h = four n h

distance_back : (n : ℕ) → least_size + step_size * n < 4294967296 → word_at (trailer_bytes n) 4 ≡ least_size + step_size * n
unfolding word_at trailer_bytes word_bytes
distance_back n h = four (least_size + step_size * n) h

trailer-long : (n : ℕ) → length (trailer_bytes n) ≡ 12
unfolding trailer_bytes word_bytes
trailer-long n = refl

params-long : (a : Params) → length (params_bytes a) ≡ params_size
unfolding params_bytes word_bytes
params-long a = refl

-- parameters in their ranges are small
small : (a : Params) → in_range a ≡ true → Small a
small a h =
    let r = in_range_lem a h in
    record {
      processes = omega (arith, r.processes);
      hazards = omega (arith, r.hazards);
      nodes = omega (arith, r.nodes);
      visibility_bound = omega (arith, r.visibility_bound);
      quiescence_threshold = omega (arith, r.quiescence_threshold);
      fallback_threshold = omega (arith, r.fallback_threshold);
      lateness = omega (arith, r.lateness);
    }

-- ---- all of it

module _ (t : Trace) where
  front : List ℕ
  front = params_bytes t.params ++ steps_bytes t.steps

  two : trace_bytes t ≡ front ++ trailer_bytes (length t.steps)
  unfolding trace_bytes front
  two = sym (append_assoc (params_bytes t.params) (steps_bytes t.steps) (trailer_bytes (length t.steps)))

  front_long : length front ≡ params_size + step_size * length t.steps
  unfolding front
  front_long =
      omega (
        arith,
        length-append (params_bytes t.params) (steps_bytes t.steps),
        params-long t.params,
        steps-long t.steps,
      )

  all-long : length (trace_bytes t) ≡ least_size + step_size * length t.steps
  all-long =
      ap length two
      ∙ omega (
        arith,
        length-append front (trailer_bytes (length t.steps)),
        front_long,
        trailer-long (length t.steps),
      )

  module _ (short : least_size + step_size * length t.steps ≤ 65536) where
    count-read : count_of (trace_bytes t) ≡ length t.steps
    count-read =
        ap (λ (bs : List ℕ). word_at bs (trailer_at (trace_bytes t))) two
        ∙ word-shifted front (trailer_bytes (length t.steps)) 0 (trailer_at (trace_bytes t)) (omega (arith, all-long, front_long))
        ∙ count-back (length t.steps) (omega arith)

    distance_read : distance_of (trace_bytes t) ≡ least_size + step_size * length t.steps
    distance_read =
        ap (λ (bs : List ℕ). word_at bs (trailer_at (trace_bytes t) + 4)) two
        ∙ word-shifted front (trailer_bytes (length t.steps)) 4 (trailer_at (trace_bytes t) + 4) (omega (arith, all-long, front_long))
        ∙ distance_back (length t.steps) (omega arith)

    mark-read : mark_at (trace_bytes t) (trailer_at (trace_bytes t) + 8) ≡ true
    mark-read =
        ap (λ (bs : List ℕ). mark_at bs (trailer_at (trace_bytes t) + 8)) two
        ∙ mark-shifted front (trailer_bytes (length t.steps)) 8 (trailer_at (trace_bytes t) + 8) (omega (arith, all-long, front_long))
        ∙ mark-back (length t.steps)

    right-read : trailer_right (trace_bytes t) ≡ true
    right-read =
        right-trailer
        (trace_bytes t)
        (record {
          room = omega (arith, all-long);
          mark = mark-read;
          distance = omega (arith, count-read, distance_read);
          inside = omega (arith, all-long, distance_read);
        })

    start-read : start_of (trace_bytes t) ≡ 0
    start-read = omega (arith, all-long, distance_read)

    params-read : in_range t.params ≡ true → params_of (trace_bytes t) ≡ t.params
    unfolding trace_bytes
    params-read h =
        ap (params_at (trace_bytes t)) start-read
        ∙ params-back t.params (steps_bytes t.steps ++ trailer_bytes (length t.steps)) (small t.params h)

    steps-read : All StepFits t.steps → steps_of (trace_bytes t) ≡ t.steps
    unfolding trace_bytes
    steps-read h =
        ap (steps_from (trace_bytes t) (first_of (trace_bytes t))) count-read
        ∙ steps-shifted
        (params_bytes t.params)
        (steps_bytes t.steps ++ trailer_bytes (length t.steps))
        (length t.steps)
        0
        (first_of (trace_bytes t))
        (omega (arith, start-read, params-long t.params))
        ∙ steps_back t.steps (trailer_bytes (length t.steps)) h

pub written_read : WrittenRead
unfolding trace_of
written_read t ranges each short =
    opens
    (trace_bytes t)
    (trace_at (trace_bytes t))
    (omega (arith, all-long t))
    (right-read t short)
    (ap in_range (params-read t short ranges) ∙ ranges)
    ∙ ap given (λ i. record { params = params-read t short ranges i; steps = steps-read t short each i })

pub greatest-read : GreatestRead
greatest-read t ranges each many = (written_read t ranges each (omega (arith, many)), omega (arith, all-long t, many))
