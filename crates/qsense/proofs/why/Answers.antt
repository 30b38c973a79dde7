-- `why` meets its contract: checked, then asked. Assumes nothing.
use Prim.Native.Nat.{ℕ}
use mathlib.Core.Bool.{true, false, cond}
use mathlib.Core.List.{List}
use mathlib.Core.Path.{◌≡◌, sym, ap, ◌∙◌}
use Rattle.model.specs.Why.{Refused, explained}
use Rattle.layout.specs.Encode.{decode}
use Rattle.layout.specs.Words.{well_formed}
use Rattle.qsense.specs.Calls.{why_words}
use Rattle.qsense.proofs.Checked.{checked}
use Rattle.qsense.proofs.why.Goals as goal

malformed : (ws : List ℕ) (c : ℕ) → well_formed ws ≡ false → Refused 3 ≡ why_words ws c
unfolding why_words
malformed ws c e = sym (ap (λ b. cond b (explained (decode ws) c) (Refused 3)) e)

asked : (ws : List ℕ) (c : ℕ) → well_formed ws ≡ true → explained (decode ws) c ≡ why_words ws c
unfolding why_words
asked ws c e = sym (ap (λ b. cond b (explained (decode ws) c) (Refused 3)) e)

pub returns-then-not-well_formed : goal.returns-then-not-well_formed
returns-then-not-well_formed c =
    let a = c.args in
    let e : c.well_formed-2.result ≡ false = c.if-not-well_formed.true in
    malformed a.words.now a.node.0 (sym c.well_formed-2.ensures ∙ e)

pub explain-requires : goal.explain-requires
explain-requires c = checked c.args.words.now _ c.well_formed-2.ensures (c.if-not-well_formed.false)

pub returns : goal.returns
returns c =
    let a = c.args in
    let e : c.well_formed-2.result ≡ true = c.if-not-well_formed.false in
    c.explain.ensures ∙ asked a.words.now a.node.0 (sym c.well_formed-2.ensures ∙ e)
