-- The quiescent state on words: a process brought to the global epoch, and the epoch moved on. Assumes nothing.
use Prim.Native.Nat.{ℕ, ◌<◌}
use mathlib.Core.Bool.{true, false}
use mathlib.Core.List.{List}
use mathlib.Core.Path.{◌≡◌, refl, sym, ◌∙◌, ap}
use mathlib.Core.Logic.{◌≢◌}
use borrow.Author.Tests.{eq-eqb, ne_eqb}
use lib.Dec.{eqb}
use Rattle.model.specs.WellFormed.{WellFormed}
use Rattle.model.specs.State.{Domain, process_of, set_process, with_words}
use Rattle.model.specs.Retire.{freeing}
use Rattle.model.specs.Epochs.{expired, caught_up, adopted, adopt, quiescent}
use Rattle.model.proofs.WellFormed.{keep-freeing}
use Rattle.layout.specs.Shape.{Lead, lead_of, word}
use Rattle.layout.specs.Encode.{encode, decode, params_in}
use Rattle.layout.specs.Sound.{Sound}
use Rattle.layout.proofs.Sound.{head_words_lem, decoded, sound-at}
use Rattle.domain.specs.Effects.{Does}
use Rattle.domain.proofs.After.{still-below}

-- after the sweep
module _ {ws : List ℕ} (s : Sound ws) (p : ℕ) (l : p < (params_in ws).processes) {ws₁ : List ℕ} {v : ℕ}
    (e : Does (freeing (decode ws) (expired (decode ws) p)) ws₁ v) where
  d₁ : Domain
  d₁ = (freeing (decode ws) (expired (decode ws) p)).after

  good : WellFormed d₁
  unfolding d₁
  good = keep-freeing s.domain (expired (decode ws) p)

  pub sound-swept : Sound ws₁
  unfolding d₁
  sound-swept = sound-at e.0 good

  pub process-swept : p < word ws₁ 0
  process-swept = still-below (freeing (decode ws) (expired (decode ws) p)).after e.0 l (head_words_lem ws).processes

  pub adopts : {x : Lead} → x ≡ lead_of (process_of (decode ws₁) p) → {g : ℕ} → g ≡ (decode ws₁).epoch → {ws₂ : List ℕ}
      → ws₂ ≡ encode (set_process (decode ws₁) p (with_words (process_of (decode ws₁) p) g x.calls x.presence))
      → Does (adopt (decode ws) p) ws₂ v
  unfolding d₁
  adopts ex eg q = (
    q ∙ (λ i. encode (set_process (decode ws₁) p (with_words (process_of (decode ws₁) p) (eg i) (ex i).calls (ex i).presence)))
        ∙ ap (λ (d : Domain). encode (adopted d p)) (decoded e.0 good),
    e.1,
  )

-- the branches
module _ (d : Domain) (p : ℕ) {x : Lead} (ex : x ≡ lead_of (process_of d p)) {g : ℕ} (eg : g ≡ d.epoch) where
  pub behind : x.epoch ≢ g → {ws : List ℕ} {v : ℕ} → Does (adopt d p) ws v → Does (quiescent d p) ws v
  behind z h =
      let n : eqb (process_of d p).epoch d.epoch ≡ false = ne_eqb _ _ (λ q. z (ap (λ y. y.epoch) ex ∙ q ∙ sym eg)) in rw n h

  module _ (z : x.epoch ≡ g) where
    here : eqb (process_of d p).epoch d.epoch ≡ true
    here = eq-eqb _ _ (sym (ap (λ y. y.epoch) ex) ∙ z ∙ eg)

    pub waits : caught_up d ≡ false → {ws : List ℕ} → ws ≡ encode d → Does (quiescent d p) ws 0
    waits b h = rw (here, b) (h, refl)
