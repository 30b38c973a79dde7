-- On the words of a well-formed domain a step, a run, its accepted steps and the reachable count are the model's. Assumes nothing.
use Prim.Native.Nat.{ℕ, ◌+◌}
use mathlib.Core.Bool.{Bool, true}
use mathlib.Core.List.{List, [], ◌∷◌}
use mathlib.Core.Path.{◌≡◌, refl, ap, ◌∙◌}
use Rattle.model.specs.State.{Domain, Step}
use Rattle.model.specs.WellFormed.{WellFormed}
use Rattle.model.specs.Machine.{step, run}
use Rattle.model.specs.Claims.{accepted_as, accepted_of, reachable_count}
use Rattle.model.proofs.Theorems.{step-well-formed}
use Rattle.layout.specs.Encode.{encode, decode}
use Rattle.layout.specs.Words.{well_formed}
use Rattle.layout.proofs.Sound.{decoded}
use Rattle.layout.proofs.Checked.{well-formed-encode}
use Rattle.qsense.specs.Calls.{Reply, through_words, step_words, reachable_words, run_words}
use Rattle.qsense.specs.Demands.{accepted_in}

-- words that pass the test are stepped
stepped : (ws : List ℕ) (s : Step) → well_formed ws ≡ true → step_words ws s ≡ through_words (step (decode ws) s)
unfolding step_words
stepped ws s e = rw e

pub step_through : {d : Domain} → WellFormed d → (s : Step) → step_words (encode d) s ≡ through_words (step d s)
step_through {d} f s =
    stepped (encode d) s (well-formed-encode f) ∙ ap (λ (x : Domain). through_words (step x s)) (decoded refl f)

pub run-through : (ss : List Step) {d : Domain} → WellFormed d → run_words (encode d) ss ≡ encode (run d ss)
run-through [] f = refl
run-through (s ∷ ss) {d} f =
    ap (λ (r : Reply). run_words r.words ss) (step_through f s) ∙ run-through ss (step-well-formed d s f)

pub run-well-formed : (ss : List Step) {d : Domain} → WellFormed d → WellFormed (run d ss)
run-well-formed [] f = f
run-well-formed (s ∷ ss) {d} f = run-well-formed ss (step-well-formed d s f)

pub accepted-through : (ks : ℕ → Bool) (ss : List Step) {d : Domain} → WellFormed d → accepted_in ks (encode d) ss ≡ accepted_of ks d ss
accepted-through ks [] f = refl
accepted-through ks (s ∷ ss) {d} f =
    ap (λ (r : Reply). accepted_as ks s.kind r.refusal + accepted_in ks r.words ss) (step_through f s)
    ∙ ap (λ (n : ℕ). accepted_as ks s.kind (step d s).refusal + n) (accepted-through ks ss (step-well-formed d s f))

-- the panel call on the words of a well-formed domain
abbrev pub counted : Domain → Reply
counted d = record { refusal = 0; value = reachable_count d; words = encode d }

pub panel-through : {d : Domain} → WellFormed d → reachable_words (encode d) ≡ counted d
unfolding reachable_words
panel-through {d} f =
    rw (well-formed-encode f) (λ t. record { refusal = 0; value = reachable_count (decoded refl f t); words = encode d })
