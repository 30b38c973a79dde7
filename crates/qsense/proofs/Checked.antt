-- A call that checks its words first: refused with 3, or what it does to sound words. Assumes nothing.
use Prim.Native.Nat.{ℕ}
use mathlib.Core.Bool.{Bool, true, false, cond}
use mathlib.Core.List.{List}
use mathlib.Core.Path.{◌≡◌, refl, sym, ap, ◌∙◌}
use Rattle.std.specs.Prelude.{Option, Some, None, Result, Err}
use Rattle.std.specs.Option.{ok_or}
use Rattle.refusals.specs.declared.Refusal.{Refusal}
use Rattle.refusals.specs.declared.Refusal.TheVariants.{Malformed}
use Rattle.model.specs.State.{Step}
use Rattle.model.specs.Claims.{reachable_count}
use Rattle.layout.specs.Encode.{decode}
use Rattle.layout.specs.Words.{well_formed}
use Rattle.layout.specs.Sound.{Sound}
use Rattle.layout.proofs.Checked.{well-formed-sound, sound-well-formed}
use Rattle.wellformed.specs.Answers.{reachable_in}
use Rattle.steps.specs.Stepped.{SteppedTo}
use Rattle.qsense.specs.Calls.{refusing, step_words, reachable_words}
use Rattle.qsense.specs.Values.{reply_of, Stepped}

module _ (ws : List ℕ) (b : Bool) (e : b ≡ well_formed ws) where
  pub checked : b ≡ true → Sound ws
  checked t = well-formed-sound ws (sym e ∙ t)

  pub count-refused : b ≡ false → refusing 3 ws ≡ reachable_words ws
  unfolding reachable_words
  count-refused t = rw (← e, t)

  pub counted : b ≡ true → (n : ℕ) → n ≡ reachable_count (decode ws) → record { refusal = 0; value = n; words = ws } ≡ reachable_words ws
  unfolding reachable_words
  counted t n q = rw (← e, t, q)

  pub step-refused : (s : Step) → b ≡ false → Stepped b s ws (Err Malformed) ws
  unfolding step_words
  step-refused s t = record { reply = rw (← e, t); good = e }

  pub step-taken : (s : Step) → b ≡ true → (r : Result ℕ Refusal) (ws' : List ℕ) → SteppedTo ws s r ws' → Stepped b s ws r ws'
  unfolding step_words
  step-taken s t r ws' h =
      record {
        reply = rw (← e, t) (λ i. record { refusal = h.refusal i; value = h.value i; words = h.words i });
        good = t ∙ sym (sound-well-formed h.sound);
      }

-- the reachable count, of words by their check
pub answered : (ws : List ℕ) {o : Option ℕ} → o ≡ reachable_in ws → reply_of (ok_or o Malformed) ws ≡ reachable_words ws
unfolding reachable_words
answered ws e = ap (λ (o : Option ℕ). reply_of (ok_or o Malformed) ws) e ∙ by (well_formed ws)
  where
    by : (b : Bool) → reply_of (ok_or (cond b (Some (reachable_count (decode ws))) None) Malformed) ws
        ≡ cond b (record { refusal = 0; value = reachable_count (decode ws); words = ws }) (refusing 3 ws)
    by true = refl
    by false = refl
