-- The two ways of a print. Assumes nothing.
use Prim.Native.Nat.{ℕ, ◌-◌, ◌/◌, ◌≤◌}
use mathlib.Core.List.{List}
use mathlib.Core.Path.{◌≡◌, sym, ap, ◌∙◌}
use native.Mathlib.Omega.{arith}
use lib.ListN.{length}
use Rattle.trace.specs.Widths.{least_size, step_size}
use Rattle.trace.specs.Trace.{refused, given, Front, front_of, trace_of}
use Rattle.trace.specs.Claims.{led_from, trace_from}
use Rattle.trace.proofs.InTurn.{steps-many}
use Rattle.trace.proofs.Theorems.{front-leads, steps-in-turn}
use Rattle.text.specs.Text.{Put, refused_text, refused_text_size}
use Rattle.text.proofs.Sizes.{ten-most}
use Rattle.text.proofs.Digits.{put-take}
use Rattle.replay.specs.Most.{book_room}
use Rattle.replay.specs.Turn.{Replayed}
use Rattle.print.specs.Printed.{reading_text, printed, print_room, Prints}

module _ (bs : List ℕ) (f : Front) (opened : front_of bs ≡ given f) where
  fits : f.count ≤ (length bs - least_size) / step_size
  fits = let (t, _, turn) = steps-in-turn bs f opened in omega (arith, turn.room)

  pub room : (n : ℕ) → print_room (length bs) ≤ n → book_room f.count ≤ n
  room n h = omega (arith, fits)

  pub found : (ws out' : List ℕ) (n : ℕ) → Replayed (led_from bs f) ws out' n → Prints bs out' n
  unfolding printed
  found ws out' n r =
      let read : trace_of bs ≡ given (led_from bs f) = front-leads bs ∙ ap (trace_from bs) opened in
      record { text = r.text ∙ sym (ap reading_text read); room = omega (arith, r.room, fits, steps-many bs f.first f.count) }

pub not_found : (bs : List ℕ) (k : ℕ) (out out' : List ℕ) (n : ℕ) → refused k ≡ front_of bs → print_room (length bs) ≤ length out
    → Put out 0 (refused_text k) (refused_text_size k) out' n → Prints bs out' n
unfolding printed
not_found bs k out out' n e l x =
    let read : trace_of bs ≡ refused k = front-leads bs ∙ ap (trace_from bs) (sym e) in
    let short = ten-most k in
    record {
      text = put-take out 0 _ _ out' n x (omega arith) ∙ sym (ap reading_text read);
      room = omega (arith, x.ends);
    }
