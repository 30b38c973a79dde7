-- A portion of a scan on sound words, refused and accepted; and the step that it is. Assumes nothing.
use Prim.Native.Nat.{ℕ}
use mathlib.Core.List.{List}
use mathlib.Core.Path.{◌≡◌, refl, sym, ap, ◌∙◌}
use borrow.Author.Tests.{ne_eqb}
use Rattle.std.specs.Prelude.{Result, Ok, Err}
use Rattle.refusals.specs.declared.Refusal.{Refusal}
use Rattle.refusals.specs.Numbers.{number}
use Rattle.refusals.proofs.Numbers.{some-number}
use Rattle.model.specs.State.{Step}
use Rattle.model.specs.Kinds.{kind_of, Portion}
use Rattle.model.specs.Questions.{refusal_of}
use Rattle.model.specs.Portion.{portion}
use Rattle.model.specs.Machine.{step, step_as, portioned, portion_step}
use Rattle.model.specs.Claims.{step_of_portion}
use Rattle.model.proofs.Walk.{asked}
use Rattle.model.proofs.WellFormed.{keep-act}
use Rattle.model.proofs.Theorems.{portion-is-step}
use Rattle.layout.specs.Encode.{decode}
use Rattle.layout.specs.Sound.{Sound}
use Rattle.layout.proofs.Sound.{sound-at}
use Rattle.retire.specs.Portions.{Scans}
use Rattle.retire.specs.declared.portion.Portion as Retire
use Rattle.steps.specs.Stepped.{SteppedTo}
use Rattle.steps.specs.Portioned.{Portions}
use Rattle.steps.proofs.Asked.{Refused}

module _ {ws : List ℕ} (sound : Sound ws) (p c l : ℕ) where
  pub portion-refused : {r : Refusal} → number r ≡ refusal_of Portion (decode ws) (portion_step p c l) → {x : Result Retire.Portion Refusal}
      → ((y : Refusal) × (x ≡ Err y) × (y ≡ r)) → Portions (portioned (decode ws) p c l) x ws
  unfolding portioned
  portion-refused e x =
      let by : number x.0 ≡ refusal_of Portion (decode ws) (portion_step p c l) = ap number x.2 ∙ e in
      rw (x.1, ← by, ne_eqb (number x.0) 0 (some-number x.0))
      (record { refusal = refl; freed = refl; examined = refl; next = refl; left = refl; words = sound.whole; sound = sound })

  pub portion-done : 0 ≡ refusal_of Portion (decode ws) (portion_step p c l) → {ws' : List ℕ} {x : Retire.Portion}
      → Scans (portion (decode ws) p c l) x ws' → Portions (portioned (decode ws) p c l) (Ok x) ws'
  unfolding portioned
  portion-done e h =
      rw (← e)
      (record {
        refusal = refl;
        freed = h.freed;
        examined = h.examined;
        next = h.next;
        left = h.left;
        words = h.words;
        sound = sound-at h.words (keep-act Portion (decode ws) (portion_step p c l) sound.domain (asked _ _ _ (sym e)));
      })

-- the step of kind 17, whatever its hazard is
as_step : (ws : List ℕ) (s : Step) → kind_of s.kind ≡ Portion → step (decode ws) s ≡ step_of_portion (portioned (decode ws) s.process s.node s.guest)
unfolding step
as_step ws s is = ap (λ k. step_as k (decode ws) s) is ∙ portion-is-step (decode ws) s.process s.node s.guest

module _ (ws : List ℕ) (s : Step) (is : kind_of s.kind ≡ Portion) {ws' : List ℕ} where
  pub step-done : {x : Retire.Portion} → Portions (portioned (decode ws) s.process s.node s.guest) (Ok x) ws' → SteppedTo ws s (Ok x.freed) ws'
  step-done h = rw (as_step ws s is) (record { refusal = h.refusal; value = h.freed; words = h.words; sound = h.sound })

  pub step-refused : {r : Refusal} → Portions (portioned (decode ws) s.process s.node s.guest) (Err r) ws' → {x : Result ℕ Refusal}
      → Refused x r → SteppedTo ws s x ws'
  step-refused h x =
      rw (x.1, x.2, as_step ws s is) (record { refusal = h.refusal; value = h.freed; words = h.words; sound = h.sound })
