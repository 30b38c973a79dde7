-- The most bytes of each line: what the rules, the ranges and the limit of a book make of the numbers on it. Assumes nothing.
use Prim.Native.Nat.{ℕ, ◌≤◌, ◌<◌}
use mathlib.Core.List.{List, [], ◌∷◌}
use native.Mathlib.Omega.{arith}
use Rattle.lists.specs.Tests.{All}
use Rattle.lists.proofs.Bools.{by_cond}
use Rattle.model.specs.Params.{Params, InRange}
use Rattle.model.specs.State.{Domain, Step}
use Rattle.model.specs.Questions.{Question, first_no, questions, refusal_of}
use Rattle.model.specs.Kinds.{Kind, kind_of}
use Rattle.model.specs.Machine.{Outcome, step, act, accepted, refused}
use Rattle.text.specs.Text.{params_text_size, step_text_size, end_text_size}
use Rattle.replay.specs.Most.{most_params_line, most_step_line, most_end_line}
use Rattle.text.proofs.Sizes.{one-most, two-most, three-most, four-most, ten-most}
use lib.Dec.{eqb}

-- ---- a refusal has two digits

abbrev Low : Question → Type 0
Low q = q.number < 100

first-low : (qs : List Question) → All Low qs → first_no qs < 100
first-low [] h = omega arith
first-low (q ∷ qs) h = by_cond (λ n. n < 100) q.yes' (λ _. first-low qs h.1) (λ _. h.0)

asked_low : (k : Kind) (d : Domain) (s : Step) → refusal_of k d s < 100
asked_low k d s = first-low (questions k d s) (omega arith)

pub refusal-low : (d : Domain) (s : Step) → (step d s).refusal < 100
unfolding step
refusal-low d s =
    let k = kind_of s.kind in
    by_cond (λ (o : Outcome). o.refusal < 100) (eqb (refusal_of k d s) 0) {x = accepted (act k d s)} {y = refused (refusal_of k d s) d}
    (λ _. omega arith)
    (λ _. asked_low k d s)

-- ---- the lines

pub params_size_lem : (a : Params) → InRange a → params_text_size a ≤ most_params_line
params_size_lem a r =
    omega (
      arith,
      two-most a.processes (omega (arith, r.processes)),
      one-most a.hazards (omega (arith, r.hazards)),
      three-most a.nodes (omega (arith, r.nodes)),
      four-most a.visibility_bound (omega (arith, r.visibility_bound)),
      four-most a.quiescence_threshold (omega (arith, r.quiescence_threshold)),
      three-most a.fallback_threshold (omega (arith, r.fallback_threshold)),
      four-most a.lateness (omega (arith, r.lateness)),
    )

pub step_size_lem : (i kind r v n : ℕ) → i < 5458 → kind < 256 → r < 100 → n ≤ 256 → step_text_size i kind r v n ≤ most_step_line
step_size_lem i kind r v n p q s t =
    omega (
      arith,
      four-most i (omega arith),
      three-most kind (omega arith),
      two-most r (omega arith),
      ten-most v,
      three-most n (omega arith),
    )

pub end-size : (clock path n : ℕ) → path ≤ 1 → n ≤ 256 → end_text_size clock path n ≤ most_end_line
end-size clock path n p q =
    omega (arith, ten-most clock, one-most path (omega arith), three-most n (omega arith))
