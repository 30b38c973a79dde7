-- `text::put_params` meets its contract: the word, and one number after another. Assumes nothing.
use Rattle.text.proofs.Digits.{put_then}
use Rattle.text.proofs.put_params.Goals as goal

pub returns : goal.returns
returns c =
    let upto-second = put_then _ _ _ _ _ _ _ _ _ _ c.put_bytes-at.ensures c.put_number-at.ensures in
    let upto-third = put_then _ _ _ _ _ _ _ _ _ _ upto-second c.put_number-at-2.ensures in
    let upto-fourth = put_then _ _ _ _ _ _ _ _ _ _ upto-third c.put_number-at-3.ensures in
    let upto-fifth = put_then _ _ _ _ _ _ _ _ _ _ upto-fourth c.put_number-at-4.ensures in
    let upto-sixth = put_then _ _ _ _ _ _ _ _ _ _ upto-fifth c.put_number-at-5.ensures in
    let upto-seventh = put_then _ _ _ _ _ _ _ _ _ _ upto-sixth c.put_number-at-6.ensures in
    put_then _ _ _ _ _ _ _ _ _ _ upto-seventh c.put_number.ensures
