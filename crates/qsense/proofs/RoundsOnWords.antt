-- Rounds of calls on the words of a well-formed domain are the model's rounds. Assumes nothing.
use Prim.Native.Nat.{ℕ}
use mathlib.Core.Bool.{Bool, true}
use mathlib.Core.List.{List, [], ◌∷◌}
use mathlib.Core.Path.{◌≡◌, refl, sym, ap, ◌∙◌, subst}
use lib.ListN.{length}
use Rattle.lists.specs.Tests.{every}
use Rattle.model.specs.State.{Domain, Step, Retired, node_of}
use Rattle.model.specs.WellFormed.{WellFormed}
use Rattle.model.specs.Machine.{step}
use Rattle.model.specs.Rounds.{machine, Transition, transitions, ended, Stretch, stretches, is_round, is_fast, always}
use Rattle.model.specs.Rounds.{never, is_freed, FreedInRounds}
use Rattle.model.proofs.Theorems.{step-well-formed}
use Rattle.layout.specs.Encode.{encode, decode}
use Rattle.layout.proofs.Sound.{decoded}
use Rattle.qsense.specs.Calls.{Reply}
use Rattle.qsense.specs.Demands.{calling}
use Rattle.qsense.proofs.ModelOnWords.{step_through}

ended-well-formed : (ss : List Step) {d : Domain} → WellFormed d → WellFormed (ended (machine step) d ss)
ended-well-formed [] f = f
ended-well-formed (s ∷ ss) {d} f = ended-well-formed ss (step-well-formed d s f)

ended-through : (ss : List Step) {d : Domain} → WellFormed d → ended calling (encode d) ss ≡ encode (ended (machine step) d ss)
ended-through [] f = refl
ended-through (s ∷ ss) {d} f =
    ap (λ (r : Reply). ended calling r.words ss) (step_through f s) ∙ ended-through ss (step-well-formed d s f)

transitions-through : (ss : List Step) {d : Domain} → WellFormed d → transitions calling (encode d) ss ≡ transitions (machine step) d ss
transitions-through [] f = refl
transitions-through (s ∷ ss) {d} f =
    let g = step-well-formed d s f in
    ap (λ (r : Reply). record { before = decode (encode d); step = s; refusal = r.refusal; after = decode r.words } ∷ transitions calling r.words ss) (step_through f s)
    ∙ (λ t. record { before = decoded refl f t; step = s; refusal = (step d s).refusal; after = decoded refl g t } ∷ transitions-through ss g t)

stretches-through : (rs : List (List Step)) {d : Domain} → WellFormed d → stretches calling (encode d) rs ≡ stretches (machine step) d rs
stretches-through [] f = refl
stretches-through (ss ∷ rs) {d} f =
    λ t. record { start = decoded refl f t; transitions = transitions-through ss f t }
    ∷ (ap (λ (w : List ℕ). stretches calling w rs) (ended-through ss f) ∙ stretches-through rs (ended-well-formed ss f)) t

-- what is claimed of the rules is so of the calls
pub freed-through : (barred : ℕ → Transition → Bool) (n : ℕ) {d : Domain} → WellFormed d → FreedInRounds (machine step) barred n d
    → FreedInRounds calling barred n (encode d)
freed-through barred n {d} f x rounds c =
    subst (λ (xs : List Stretch). length rounds ≡ n → every is_round xs ≡ true → always is_fast xs ≡ true → never (barred c) xs ≡ true
    → (node_of (decode (encode d)) c).state ≡ Retired → is_freed c xs ≡ true) (sym (stretches-through rounds f))
    (λ l r p s k. x rounds c l r p s (ap (λ (y : Domain). (node_of y c).state) (sym (decoded refl f)) ∙ k))
