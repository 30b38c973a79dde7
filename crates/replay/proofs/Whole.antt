-- A trace that opens, and the whole of its replay: the first line, the lines of the steps and the last line are its print. Assumes nothing.
use Prim.Native.Nat.{ℕ, ◌+◌, ◌*◌, ◌≤◌}
use mathlib.Core.List.{List, ◌++◌}
use mathlib.Core.Path.{◌≡◌, ap, ◌∙◌}
use native.Mathlib.Omega.{arith}
use lib.ListN.{length, take}
use Rattle.model.specs.Params.{InRange, word_count}
use Rattle.model.specs.State.{Domain}
use Rattle.model.specs.WellFormed.{WellFormed}
use Rattle.model.specs.Machine.{run, fresh}
use Rattle.model.proofs.Theorems.{fresh-well-formed}
use Rattle.layout.specs.Encode.{encode, decode}
use Rattle.layout.specs.Sound.{Sound}
use Rattle.layout.specs.Ranges.{length_for, most_words}
use Rattle.layout.proofs.Sound.{decoded, sound-at}
use Rattle.layout.proofs.Ranges.{in_range_lem, length-in-range, words-most}
use Rattle.trace.specs.Bytes.{steps_from}
use Rattle.trace.specs.Trace.{given, Front, front_of}
use Rattle.trace.specs.Claims.{led_from}
use Rattle.trace.proofs.InTurn.{passed, steps-many}
use Rattle.trace.proofs.Theorems.{steps-in-turn}
use Rattle.text.specs.Text.{Put, params_text, params_text_size, end_text, end_text_size}
use Rattle.text.proofs.Digits.{put-take}
use Rattle.replay.specs.Most.{most_params_line, book_room}
use Rattle.replay.specs.Lines.{step_lines, last_line, book_text}
use Rattle.replay.specs.Turn.{end_of, Ran, Replayed}
use Rattle.replay.proofs.Sizes.{params_size_lem, end-size}
use Rattle.replay.proofs.Step.{few}

-- a book that opens: its steps stand in its bytes and are few, and its parameters are in their ranges
module _ (bs : List ℕ) (f : Front) (opened : front_of bs ≡ given f) where
  pub inside : f.first + 12 * f.count ≤ length bs
  inside = let (t, _, turn) = steps-in-turn bs f opened in omega (arith, turn.ends)

  pub few-steps : f.count ≤ 5458
  few-steps = let (t, _, turn) = steps-in-turn bs f opened in turn.few

  pub ranged : InRange f.params
  ranged = in_range_lem f.params (passed bs f opened).range

  -- its domain takes so many words
  long-is : length_for f.params.processes f.params.hazards f.params.nodes ≡ word_count f.params
  long-is = length-in-range f.params (passed bs f opened).range

  -- words as many as the code asks for are as many as its domain takes
  pub words-enough : {l w : ℕ} → l ≡ w → w ≡ length_for f.params.processes f.params.hazards f.params.nodes → l ≡ word_count f.params
  words-enough e g = e ∙ g ∙ long-is

  pub long-most : word_count f.params ≤ most_words
  long-most = words-most f.params ranged

  well : WellFormed (fresh f.params)
  well = fresh-well-formed f.params ranged

  pub first-line : params_text_size f.params ≤ most_params_line
  first-line = params_size_lem f.params ranged

  module _ (ws₁ : List ℕ) (made : ws₁ ≡ encode (fresh f.params)) where
    pub made-sound : Sound ws₁
    made-sound = sound-at made well

    -- the domain after all steps is the one that the trace ends in
    pub come : (ws₂ : List ℕ) → decode ws₂ ≡ run (decode ws₁) (steps_from bs f.first f.count) → decode ws₂ ≡ end_of (led_from bs f)
    come ws₂ e = e ∙ ap (λ (d : Domain). run d (steps_from bs f.first f.count)) (decoded made well)

    module _ (start at r : ℕ) (out₁ ws₂ out₂ : List ℕ)
        (ran : Ran (steps_from bs f.first f.count) start ws₁ out₁ ws₂ out₂ (record { at = at; reachable = r }))
        (begun : start ≡ 0 + params_text_size f.params) where
      module _ (clock path : ℕ) (c : clock ≡ (decode ws₂).clock) (p : path ≡ (decode ws₂).path) where
        pub last_line_lem : at + end_text_size clock path r ≤ book_room f.count
        last_line_lem =
            omega (
              arith,
              begun,
              first-line,
              ran.room,
              steps-many bs f.first f.count,
              end-size clock path r (omega (arith, p, ran.counted.0.domain.path)) (few ws₂ r ran.counted),
            )

        last-is : end_text clock path r ≡ last_line (end_of (led_from bs f))
        last-is = (λ t. end_text (c t) (p t) (ran.counted.1 t)) ∙ ap last_line (come ws₂ ran.domain)

        pub replayed : (out out₃ : List ℕ) (n : ℕ) → book_room f.count ≤ length out → book_room f.count ≤ length out₂
            → Put out 0 (params_text f.params) (params_text_size f.params) out₁ start
            → Put out₂ at (end_text clock path r) (end_text_size clock path r) out₃ n
            → Replayed (led_from bs f) ws₂ out₃ n
        unfolding book_text
        replayed out out₃ n l l₂ x y =
            let first = put-take out 0 _ _ out₁ start x (omega (arith, first-line)) in
            let last = put-take out₂ at _ _ out₃ n y (omega (arith, last_line_lem)) in
            let steps : take start out₁ ++ step_lines 0 (decode ws₁) (steps_from bs f.first f.count)
            ≡ params_text f.params ++ step_lines 0 (fresh f.params) (steps_from bs f.first f.count) =
            λ t. first t ++ step_lines 0 (decoded made well t) (steps_from bs f.first f.count) in
            let before = ran.text ∙ steps in
            record {
              words = ran.counted.0.whole ∙ ap encode (come ws₂ ran.domain);
              text = last ∙ (λ t. before t ++ last-is t);
              room = omega (arith, y.ends, last_line_lem, steps-many bs f.first f.count);
            }
