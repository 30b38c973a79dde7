-- E is nothing but a longer T, carried to the words of the domain. Assumes nothing.
use Prim.Native.Nat.{ℕ, ◌≤◌}
use mathlib.Core.List.{List}
use mathlib.Core.Path.{◌≡◌, refl, sym, ap, ◌∙◌}
use Rattle.model.specs.Params.{most_ticks, delay}
use Rattle.model.specs.State.{Domain, Step}
use Rattle.model.specs.WellFormed.{WellFormed}
use Rattle.model.specs.Machine.{Outcome, step, run}
use Rattle.model.specs.Claims.{punctual, punctually}
use Rattle.model.proofs.Lateness.{lateness-is-delay, well-punctual}
use Rattle.layout.specs.Encode.{encode, encode_by, decode_by}
use Rattle.layout.proofs.Checked.{well-formed-sound}
use Rattle.qsense.specs.Calls.{through_words, step_words, run_words}
use Rattle.qsense.specs.Demands.{punctual_words, punctual_reply, LatenessIsDelayWords}
use Rattle.qsense.proofs.ModelOnWords.{step_through, run-through, run-well-formed}

-- the words of the domain with the sum
punctual-encoded : (d : Domain) → punctual_words (encode d) ≡ encode (punctual d)
unfolding encode_by
punctual-encoded d = refl

-- a step after a run is the model's
after_run : {d : Domain} → WellFormed d → (ss : List Step) (s : Step)
    → step_words (run_words (encode d) ss) s ≡ through_words (step (run d ss) s)
after_run {d} f ss s = ap (λ (w : List ℕ). step_words w s) (run-through ss f) ∙ step_through (run-well-formed ss f) s

punctual-through : (o : Outcome) → through_words (punctually o) ≡ punctual_reply (through_words o)
punctual-through o = λ t. record { refusal = o.refusal; value = o.value; words = sym (punctual-encoded o.after) t }

of-domain : (d : Domain) (ss : List Step) (s : Step) → WellFormed d → delay d.params ≤ most_ticks
    → step_words (run_words (punctual_words (encode d)) ss) s ≡ punctual_reply (step_words (run_words (encode d) ss) s)
of-domain d ss s f room =
    ap (λ (w : List ℕ). step_words (run_words w ss) s) (punctual-encoded d)
    ∙ after_run (well-punctual d room f) ss s
    ∙ ap through_words (lateness-is-delay d ss s)
    ∙ punctual-through (step (run d ss) s)
    ∙ ap punctual_reply (sym (after_run f ss s))

pub lateness-is-delay-words : LatenessIsDelayWords
unfolding decode_by
lateness-is-delay-words ws ss s e room =
    let w = well-formed-sound ws e in
    ap (λ (r : List ℕ). step_words (run_words (punctual_words r) ss) s) w.whole
    ∙ of-domain _ ss s w.domain room
    ∙ ap (λ (r : List ℕ). punctual_reply (step_words (run_words r ss) s)) (sym w.whole)
