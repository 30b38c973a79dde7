-- `text::put_end` meets its contract: the word, and one number after another. Assumes nothing.
use Rattle.text.proofs.Digits.{put_then}
use Rattle.text.proofs.put_end.Goals as goal

pub returns : goal.returns
returns c =
    put_then _ _ _ _ _ _ _ _ _ _
    (put_then _ _ _ _ _ _ _ _ _ _
    (put_then _ _ _ _ _ _ _ _ _ _
    c.put_bytes-at.ensures c.put_number-at.ensures) c.put_number-at-2.ensures) c.put_number.ensures
