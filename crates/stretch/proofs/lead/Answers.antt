-- `stretch::lead` meets its contract: the five words, and the length of a buffer is the fourth. Assumes nothing.
use Rattle.stretch.proofs.Words.{lead_at_lem}
use Rattle.stretch.proofs.lead.Goals as goal

pub returns : goal.returns
returns c = λ k. lead_at_lem k _
