-- Manage on words: the call counted, and the branches of what it then does. Assumes nothing.
use Prim.Native.Nat.{ℕ, ◌+◌, ◌%◌, ◌<◌}
use mathlib.Core.Bool.{true, false}
use mathlib.Core.List.{List}
use mathlib.Core.Path.{◌≡◌, refl, sym, ◌∙◌, ap}
use mathlib.Core.Logic.{◌≢◌}
use native.Mathlib.Omega.{arith}
use borrow.Author.Tests.{eq-eqb, ne_eqb}
use lib.Dec.{eqb}
use Rattle.model.specs.Params.{Params}
use Rattle.model.specs.WellFormed.{WellFormed}
use Rattle.model.specs.State.{Step, Fast, Fallback, process_of, set_process, with_words, with_path}
use Rattle.model.specs.Kinds.{Manage}
use Rattle.model.specs.Epochs.{all_checked_in, quiescent, managing, called_by, counted}
use Rattle.model.proofs.WellFormed.{keep-counted, keep-path}
use Rattle.layout.specs.Shape.{Lead, lead_of, word}
use Rattle.layout.specs.Encode.{encode, decode, params_in}
use Rattle.layout.specs.Sound.{Sound}
use Rattle.layout.proofs.Sound.{head_words_lem, sound-at}
use Rattle.domain.specs.Effects.{Does, given}
use Rattle.domain.proofs.After.{still-below, does-after}
use Rattle.questions.specs.Acted.{Ready, Acted}
use Rattle.questions.proofs.Accepted.{facts, process_in_lem}

-- ---- with presence set

module _ {ws : List ℕ} (s : Sound ws) (p : ℕ) {v : ℕ} (e : v ≡ (decode ws).path) where
  pub fast : v ≢ Fallback → {ws' : List ℕ} {r : ℕ} → Does (quiescent (decode ws) p) ws' r → Does (managing (decode ws) p) ws' r
  fast z h = let n : eqb (decode ws).path Fallback ≡ false = ne_eqb _ _ (λ q. z (e ∙ q)) in rw n h

  module _ (z : v ≡ Fallback) where
    slow : eqb (decode ws).path Fallback ≡ true
    slow = eq-eqb _ _ (sym e ∙ z)

    module _ {ws₁ : List ℕ} (e₁ : ws₁ ≡ encode (with_path (decode ws) Fast)) where
      good : WellFormed (with_path (decode ws) Fast)
      good = keep-path s.domain Fast (omega arith)

      pub sound-fast : Sound ws₁
      sound-fast = sound-at e₁ good

      pub process-fast : p < (params_in ws).processes → p < word ws₁ 0
      process-fast l = still-below (with_path (decode ws) Fast) e₁ l (head_words_lem ws).processes

      pub goes_back : all_checked_in (decode ws) ≡ true → {ws' : List ℕ} {r : ℕ} → Does (quiescent (decode ws₁) p) ws' r
          → Does (managing (decode ws) p) ws' r
      goes_back b {ws'} {r} h = rw (slow, b) (does-after (with_path (decode ws) Fast) e₁ good (λ d. quiescent d p) ws' r h)

-- ---- the call: x is the lead of the process, a are the parameters, as the code has read them

module _ {ws : List ℕ} (p : ℕ) (r : Ready Manage ws p 0 0 0) {x : Lead} (ex : x ≡ lead_of (process_of (decode ws) p)) where
  module _ {a : Params} (ea : a ≡ (decode ws).params) where
    call : Step
    call = given 12 p 0 0 0

    counts : (x.calls + 1) % a.quiescence_threshold ≡ called_by (decode ws) call
    unfolding call
    counts = λ i. ((ex i).calls + 1) % (ea i).quiescence_threshold

    written : (n v : ℕ) (ws₁ : List ℕ) → ws₁ ≡ encode (set_process (decode ws) p (with_words (process_of (decode ws) p) x.epoch n v))
        → ws₁ ≡ encode (counted (decode ws) call n v)
    unfolding call
    written n v ws₁ q = q ∙ ap (λ y. encode (set_process (decode ws) p (with_words (process_of (decode ws) p) y.epoch n v))) ex

    module _ {ws₁ : List ℕ} (e₁ : ws₁ ≡ encode (set_process (decode ws) p (with_words (process_of (decode ws) p) x.epoch 0 1))) where
      good₁ : WellFormed (counted (decode ws) call 0 1)
      unfolding call
      good₁ =
          let inside = (facts Manage ws p 0 0 0 r).process refl in
          keep-counted r.0.domain (given 12 p 0 0 0) inside 0 1 r.0.domain.params.quiescence_threshold.0 (omega arith)

      pub sound-called : Sound ws₁
      unfolding call
      sound-called = sound-at (written 0 1 ws₁ e₁) good₁

      pub process-called : p < word ws₁ 0
      unfolding call
      process-called =
          still-below (counted (decode ws) (given 12 p 0 0 0) 0 1) (written 0 1 ws₁ e₁) (process_in_lem Manage ws p 0 0 0 r refl) (head_words_lem ws).processes

      pub acts : (x.calls + 1) % a.quiescence_threshold ≡ 0 → {ws' : List ℕ} {v : ℕ} → Does (managing (decode ws₁) p) ws' v
          → Acted Manage ws p 0 0 0 ws' v
      unfolding call
      acts z {ws'} {v} h =
          let n : eqb (called_by (decode ws) (given 12 p 0 0 0)) 0 ≡ true = eq-eqb _ _ (sym counts ∙ z) in
          rw n (does-after (counted (decode ws) (given 12 p 0 0 0) 0 1) (written 0 1 ws₁ e₁) good₁ (λ d. managing d p) ws' v h)
