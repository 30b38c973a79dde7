-- `steps::node_kinds::remove` meets its contract: by the node as it was. Assumes nothing.
use mathlib.Core.Path.{refl, ap, ◌∙◌}
use Rattle.model.specs.State.{set_node}
use Rattle.model.specs.Machine.{removing}
use Rattle.std.proofs.lemmas.Result.{err_from_is_err_and}
use Rattle.model.specs.Kinds.{Remove}
use Rattle.layout.specs.Encode.{encode, decode}
use Rattle.layout.specs.Values.{step_value}
use Rattle.steps.proofs.Asked.{turned-away, let-in, node-in}
use Rattle.steps.proofs.node_kinds.remove.Goals as goal

pub returns-in_err-ask : goal.returns-in_err-ask
returns-in_err-ask c =
    turned-away Remove c.args.words.now (step_value c.args.step) c.requires.0 c.requires.1 c.in_err-ask.ensures
    (err_from_is_err_and _ c.from_residual.ensures.1)

pub node-x-requires : goal.node-x-requires
node-x-requires c =
    let ws = c.args.words.now in
    let s = step_value c.args.step in
    let e = c.in_ok-ask.ensures in
    (c.requires.0, node-in Remove ws s e refl)

pub set_node-requires : goal.set_node-requires
set_node-requires c =
    let ws = c.args.words.now in
    let s = step_value c.args.step in
    let e = c.in_ok-ask.ensures in
    (c.requires.0, node-in Remove ws s e refl)

pub returns : goal.returns
returns c =
    let d = decode c.args.words.now in
    let s = step_value c.args.step in
    let-in Remove c.args.words.now (step_value c.args.step) c.in_ok-ask.ensures c.requires.0 c.requires.1
    ((rw c.into.ensures at c.set_node.ensures) ∙ ap (λ n. encode (set_node d s.node (removing s.process n))) c.node-x.ensures, refl)
