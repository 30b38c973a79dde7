-- `stretch::set_lead` meets its contract: three words before the fourth. Assumes nothing.
use Rattle.stretch.proofs.Writes.{lead-written}
use Rattle.stretch.proofs.set_lead.Goals as goal

pub returns : goal.returns
returns c = lead-written _ _ c.requires.words _ _ _
