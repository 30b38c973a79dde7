-- `trace::params_at` meets its contract: seven words that are there. Assumes nothing.
use Rattle.trace.specs.Bytes.{params_at}
use Rattle.trace.proofs.params_at.Goals as goal

pub returns : goal.returns
unfolding params_at
returns c =
    λ t.
    record {
      processes = c.word_at.ensures t;
      hazards = c.word_at-2.ensures t;
      nodes = c.word_at-3.ensures t;
      visibility_bound = c.word_at-4.ensures t;
      quiescence_threshold = c.word_at-5.ensures t;
      fallback_threshold = c.word_at-6.ensures t;
      lateness = c.word_at-7.ensures t;
    }
