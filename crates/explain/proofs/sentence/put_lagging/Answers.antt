-- `explain::sentence::put_lagging` meets its contract: one text after another. Assumes nothing.
use Rattle.explain.proofs.Puts.{exactly, further}
use Rattle.explain.proofs.sentence.put_lagging.Goals as goal

pub returns : goal.returns
returns c =
    let upto-second = further (exactly c.put_bytes-at.ensures) c.put_number-at.ensures in
    further upto-second (exactly c.put_bytes.ensures)
