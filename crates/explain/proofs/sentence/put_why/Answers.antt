-- `explain::sentence::put_why` meets its contract: one text after another. Assumes nothing.
use Rattle.explain.proofs.Puts.{exactly, further}
use Rattle.explain.proofs.sentence.put_why.Goals as goal

pub returns : goal.returns
returns c =
    let upto-second = further (exactly c.put_bytes-at.ensures) c.put_number-at.ensures in
    let upto-third = further upto-second (exactly c.put_bytes-at-2.ensures) in
    let upto-fourth = further upto-third c.put_reason-at.ensures in
    let upto-fifth = further upto-fourth c.put_behind-at.ensures in
    further upto-fifth (exactly c.put_bytes.ensures)
