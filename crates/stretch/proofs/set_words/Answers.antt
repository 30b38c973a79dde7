-- `stretch::set_words` meets its contract: three words as `set_lead` writes them, and the one after the number of stores. Assumes nothing.
use Rattle.stretch.proofs.Writes.{present-written}
use Rattle.stretch.proofs.set_words.Goals as goal

pub returns : goal.returns
returns c = present-written _ _ c.set_lead.ensures
