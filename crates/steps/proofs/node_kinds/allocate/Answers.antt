-- `steps::node_kinds::allocate` meets its contract: asked and done. Assumes nothing.
use mathlib.Core.Path.{◌≡◌, refl, ap, ◌∙◌}
use Rattle.std.proofs.lemmas.Result.{err_from_is_err_and}
use Rattle.model.specs.Kinds.{Kind, Allocate}
use Rattle.layout.specs.Values.{step_value}
use Rattle.kinds.specs.Table.{guest_code}
use Rattle.steps.proofs.Asked.{turned-away, let-in, node-in}
use Rattle.steps.proofs.node_kinds.allocate.Goals as goal

pub returns-in_err-ask : goal.returns-in_err-ask
returns-in_err-ask c =
    turned-away Allocate c.args.words.now (step_value c.args.step) c.requires.0 c.requires.1 c.in_err-ask.ensures
    (err_from_is_err_and _ c.from_residual.ensures.1)

pub set_node-requires : goal.set_node-requires
set_node-requires c =
    let ws = c.args.words.now in
    let s = step_value c.args.step in
    let e = c.in_ok-ask.ensures in
    (c.requires.0, node-in Allocate ws s e refl)

pub returns : goal.returns
returns c =
    let guest : c.guest_read.result ≡ c.args.step.guest =
    c.guest_read.ensures ∙ ap (λ (k : Kind). guest_code k c.args.step.guest) c.requires.1 in
    let-in Allocate c.args.words.now (step_value c.args.step) c.in_ok-ask.ensures c.requires.0 c.requires.1
    (rw (c.into.ensures, guest) at c.set_node.ensures, refl)
