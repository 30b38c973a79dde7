-- `text::put_step` meets its contract: one number after another. Assumes nothing.
use Rattle.text.proofs.Digits.{put_then}
use Rattle.text.proofs.put_step.Goals as goal

pub returns : goal.returns
returns c =
    put_then _ _ _ _ _ _ _ _ _ _
    (put_then _ _ _ _ _ _ _ _ _ _
    (put_then _ _ _ _ _ _ _ _ _ _
    (put_then _ _ _ _ _ _ _ _ _ _
    c.put_number-at.ensures c.put_number-at-2.ensures) c.put_number-at-3.ensures) c.put_number-at-4.ensures) c.put_number.ensures
