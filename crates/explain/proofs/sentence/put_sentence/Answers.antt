-- `explain::sentence::put_sentence` meets its contract: the line of a refusal, or of what is told. Assumes nothing.
use Prim.Native.Nat.{ℕ}
use mathlib.Core.Path.{◌≡◌, sym, ap, ◌∙◌}
use native.Mathlib.Omega.{arith}
use Rattle.waiting.specs.Values.{explained_value}
use Rattle.std.specs.Prelude.{Result}
use Rattle.refusals.specs.declared.Refusal.{Refusal}
use Rattle.waiting.specs.declared.Why.{Why}
use Rattle.text.specs.Text.{refused_text}
use Rattle.text.proofs.Sizes.{ten-most}
use Rattle.explain.specs.Sentence.{sentence}
use Rattle.explain.proofs.Puts.{exactly, said}
use Rattle.explain.proofs.sentence.put_sentence.Goals as goal

told : (c : ℕ) {a q : Result Why Refusal} → a ≡ q → sentence c (explained_value q) ≡ sentence c (explained_value a)
told c e = sym (ap (λ a. sentence c (explained_value a)) e)

pub put_refused-requires : goal.put_refused-requires
put_refused-requires c = omega (arith, ten-most c.from.result)

pub returns-in-Err : goal.returns-in-Err
unfolding sentence
returns-in-Err c =
    said (exactly c.put_refused.ensures) (omega (arith, ten-most c.from.result)) (omega arith)
    (ap refused_text c.from.ensures ∙ told c.args.card c.in-Err.is)

pub returns-in-Ok : goal.returns-in-Ok
unfolding sentence
returns-in-Ok c = said c.put_why.ensures (omega arith) (omega arith) (told _ c.in-Ok.is)
