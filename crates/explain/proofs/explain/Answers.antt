-- `explain::explain` meets its contract: what is put is what is said of the answer. Assumes nothing.
use Rattle.explain.proofs.Ways.{says}
use Rattle.explain.proofs.explain.Goals as goal

pub returns : goal.returns
returns c =
    let a = c.args in
    says a.card a.bytes.now _ _ _ c.asked-answer.ensures c.put_sentence.ensures
