-- `processes::hazards` meets its contract. The invariant: what the first h hazards leave. Assumes nothing.
use Rattle.wellformed.specs.ProcessLimits.{hazards_within}
use Rattle.limits.specs.Limits.{none}
use Rattle.std.proofs.Common.{◌≡◌, ◌≤◌, ◌&&◌}
use Rattle.wellformed.proofs.processes.hazards.Given as goal

abbrev pub invariant-loop-h : goal.invariant-loop-h
invariant-loop-h l = (l.h ≤ l.k) × (none l.faults ≡ (none l.initial.faults && hazards_within l.m l.words l.before l.h))
