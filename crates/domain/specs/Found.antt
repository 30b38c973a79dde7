-- What was looked for, by a number that is past the last where there is none. Assumes nothing.
use Rattle.std.specs.Prelude.{ℕ, cond, Option, Some, None, ltb}
use Rattle.layout.specs.declared.ProcessId.{ProcessId}
use Rattle.layout.specs.declared.HazardId.{HazardId}

-- the one with number i of n; none where i is past the last
abbrev pub below : {A : Type 0} → (ℕ → A) → ℕ → ℕ → Option A
below make n i = cond (ltb i n) (Some (make i)) None

abbrev pub process_below : ℕ → ℕ → Option ProcessId
process_below n i = below (λ p. record { 0 = p }) n i

abbrev pub hazard_below : ℕ → ℕ → Option HazardId
hazard_below k i = below (λ h. record { 0 = h }) k i
