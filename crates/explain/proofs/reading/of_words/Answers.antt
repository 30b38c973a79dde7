-- `reading::of_words` meets its contract. Assumes nothing.
use Prim.Native.Nat.{ℕ}
use mathlib.Core.List.{List}
use mathlib.Core.Path.{ap, ◌∙◌}
use Rattle.qsense.specs.Calls.{why_words}
use Rattle.explain.proofs.reading.of_words.Goals as goal

pub returns : goal.returns
returns c =
    let card = c.args.card in
    c.why.ensures ∙ ap (λ (ws : List ℕ). why_words ws card) c.put_words.ensures
