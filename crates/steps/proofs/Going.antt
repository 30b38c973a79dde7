-- A leave and a join on words: the nodes handed over, and then the words of the process. Assumes nothing.
use Prim.Native.Nat.{ℕ, ◌<◌}
use mathlib.Core.List.{List}
use mathlib.Core.Path.{◌≡◌, refl, ◌∙◌, ap}
use Rattle.model.specs.WellFormed.{WellFormed}
use Rattle.model.specs.State.{Domain, process_of, set_process, with_words, with_present}
use Rattle.model.specs.Kinds.{Leave, Join}
use Rattle.model.specs.Leave.{hand_over}
use Rattle.model.proofs.Handed.{Heir, heir}
use Rattle.model.proofs.WellFormed.{keep-handed}
use Rattle.layout.specs.Shape.{Lead, lead_of}
use Rattle.layout.specs.Encode.{encode, decode, decode_by, params_in}
use Rattle.layout.specs.Sound.{Sound}
use Rattle.layout.proofs.Sound.{head_words_lem, decoded, sound-at}
use Rattle.domain.proofs.After.{still-below}
use Rattle.questions.specs.Acted.{Ready, Acted}
use Rattle.questions.proofs.Accepted.{facts, process_in_lem}

module _ {ws : List ℕ} (p c : ℕ) (r : Ready Leave ws p 0 c 0) where
  second : Heir (decode ws) p c
  second = heir (decode ws) p c ((facts Leave ws p 0 c 0 r).takes_over' refl)

  pub second-in : c < (params_in ws).processes
  unfolding decode_by
  second-in = second.below

  good : WellFormed (hand_over (decode ws) p c)
  good = keep-handed r.0.domain p c second.below

  module _ {ws₁ : List ℕ} (e : ws₁ ≡ encode (hand_over (decode ws) p c)) where
    pub sound-handed : Sound ws₁
    sound-handed = sound-at e good

    pub process-handed : p < (params_in ws₁).processes
    process-handed = still-below (hand_over (decode ws) p c) e (process_in_lem Leave ws p 0 c 0 r refl) (head_words_lem ws).processes

    pub leaves : {ws₂ : List ℕ} → ws₂ ≡ encode (set_process (decode ws₁) p (with_present (with_words (process_of (decode ws₁) p) 0 0 0) 0))
        → Acted Leave ws p 0 c 0 ws₂ 0
    leaves q = (q ∙ ap (λ (d : Domain). encode (set_process d p (with_present (with_words (process_of d p) 0 0 0) 0))) (decoded e good), refl)

-- l is the lead of p, and g the global epoch, as the code has read them
pub joins : (ws : List ℕ) (p : ℕ) {l : Lead} → l ≡ lead_of (process_of (decode ws) p) → {g : ℕ} → g ≡ (decode ws).epoch → {ws₁ : List ℕ}
    → ws₁ ≡ encode (set_process (decode ws) p (with_present (with_words (process_of (decode ws) p) g l.calls l.presence) 1))
    → Acted Join ws p 0 0 0 ws₁ 0
joins ws p el eg q = (
  q ∙ (λ t. encode (set_process (decode ws) p (with_present (with_words (process_of (decode ws) p) (eg t) (el t).calls (el t).presence) 1))),
  refl,
)
