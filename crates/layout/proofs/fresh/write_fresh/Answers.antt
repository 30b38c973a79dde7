-- `fresh::write_fresh` meets its contract: all words 0, then the parameters in the first seven, then the processes present. The loop's
-- invariant: the first p processes are. Assumes nothing.
use Prim.Native.Nat.{ℕ}
use mathlib.Core.List.{List}
use mathlib.Core.Path.{◌≡◌, ◌∙◌, ap}
use lib.Seq.{sets}
use native.Mathlib.Omega.{arith}
use Rattle.layout.specs.Values.{params_value}
use Rattle.layout.proofs.FreshWords.{param_words, present_to, present-all, fresh-words}
use Rattle.layout.proofs.fresh.write_fresh.Goals as goal

pub returns : goal.returns
returns c =
    let a = params_value c.args.params in
    let e : c.loop-p.p ≡ a.processes = omega arith in
    present-all _ _ _ _ _ c.loop-p.invariant.2 e
    ∙ ap (λ (z : List ℕ). present_to a.hazards a.processes (sets z 0 (param_words a))) (c.fill.ensures.after (λ _ e. e))
    ∙ fresh-words a _ c.requires.1
