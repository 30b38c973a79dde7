-- `shown::process` meets its contract: none so far shows it, and the first that does is the way out. Assumes nothing.
use Rattle.model.specs.Why.{shows}
use Rattle.domain.proofs.Seeking.{Looking}
use Rattle.retire.proofs.shown.process.Given as goal

abbrev pub invariant-loop-q : goal.invariant-loop-q
invariant-loop-q l = Looking (shows l.p.0 l.v) l.words l.n l.q
