-- `portion` meets its contract: checked, then asked and done. Assumes nothing.
use Prim.Native.Nat.{ℕ}
use mathlib.Core.Bool.{Bool, true, false}
use mathlib.Core.List.{List}
use mathlib.Core.Path.{◌≡◌, ◌∙◌}
use Rattle.std.specs.Prelude.{Result}
use Rattle.refusals.specs.declared.Refusal.{Refusal}
use Rattle.model.specs.Machine.{portioned}
use Rattle.layout.specs.Encode.{decode}
use Rattle.layout.specs.Words.{well_formed}
use Rattle.retire.specs.declared.portion.Portion.{Portion}
use Rattle.steps.specs.Portioned.{Portions}
use Rattle.qsense.specs.Calls.{declining, portion_through, portion_words}
use Rattle.qsense.specs.Values.{portion_reply_of}
use Rattle.qsense.proofs.Checked.{checked}
use Rattle.qsense.proofs.portion.Goals as goal

module _ (ws : List ℕ) (p a l : ℕ) {b : Bool} (e : b ≡ well_formed ws) where
  malformed : b ≡ false → declining 3 ws ≡ portion_words ws p a l
  unfolding portion_words
  malformed t = rw (← e, t)

  asked : b ≡ true → portion_through (portioned (decode ws) p a l) ≡ portion_words ws p a l
  unfolding portion_words
  asked t = rw (← e, t)

  done : b ≡ true → {r : Result Portion Refusal} {ws' : List ℕ} → Portions (portioned (decode ws) p a l) r ws'
      → portion_reply_of r ws' ≡ portion_words ws p a l
  done t x =
      (λ i. record {
        refusal = x.refusal i;
        freed = x.freed i;
        examined = x.examined i;
        next = x.next i;
        left = x.left i;
        words = x.words i;
      })
      ∙ asked t

pub portion-requires : goal.portion-requires
portion-requires c = checked c.args.words.now _ c.well_formed-good.ensures c.if-good.true

pub returns-then-good : goal.returns-then-good
returns-then-good c =
    let a = c.args in
    done a.words.now a.process.0 a.start.0 a.limit c.well_formed-good.ensures c.if-good.true c.portion.ensures

pub returns-else-good : goal.returns-else-good
returns-else-good c =
    let a = c.args in
    malformed a.words.now a.process.0 a.start.0 a.limit c.well_formed-good.ensures c.if-good.false
