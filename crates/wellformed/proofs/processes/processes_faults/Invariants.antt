-- `processes::processes_faults` meets its contract. The invariant: the first p processes fit. Assumes nothing.
use Rattle.wellformed.proofs.ProcessWithin.{fits}
use Rattle.limits.specs.Limits.{none}
use Rattle.lists.specs.Upto.{all_upto}
use Rattle.std.proofs.Common.{◌≡◌}
use Rattle.wellformed.proofs.processes.processes_faults.Given as goal

abbrev pub invariant-loop-p : goal.invariant-loop-p
invariant-loop-p l = none l.faults ≡ all_upto (fits l.words) l.p
