-- `processes::laggard` meets its contract: none so far lags, and the first that does is the way out. Assumes nothing.
use Rattle.model.specs.Why.{lags}
use Rattle.layout.specs.Encode.{decode}
use Rattle.domain.proofs.Seeking.{Looking}
use Rattle.domain.proofs.processes.laggard.Given as goal

abbrev pub invariant-loop-q : goal.invariant-loop-q
invariant-loop-q l = Looking (λ _ x. lags (decode l.words) x) l.words l.n l.q
