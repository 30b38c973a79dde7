-- The words of all processes are few, by their numbers. Assumes nothing.
use Prim.Native.Nat.{ℕ, ◌*◌, ◌≤◌}
use native.Mathlib.Omega.{arith}
use native.Mathlib.Nat.{le_trans, mul-le-mul_left, mul-le-mul_right}
use Rattle.model.specs.Params.{most_processes, most_hazards}
use Rattle.layout.specs.Shape.{Shape, process_width}
use Rattle.layout.specs.Sound.{most_rows}

pub rows-small : (sh : Shape) (n k : ℕ) → n ≤ most_processes → k ≤ most_hazards → n * process_width sh k ≤ most_rows sh
rows-small sh n k h l = le_trans (mul-le-mul_left n (omega arith)) (mul-le-mul_right (process_width sh most_hazards) h)
