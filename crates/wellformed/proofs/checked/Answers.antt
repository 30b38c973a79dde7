-- `wellformed::checked` meets its contract: three ways out with no, then the pass over processes and nodes. What the pass
-- finds is handed on by `found-fits`. Assumes nothing.
use Rattle.wellformed.proofs.Head.{ready, too_short, bad-head, bad-length, all-fits, nodes-are, nodes_in_lem}
use Rattle.wellformed.proofs.Head.{nodes-lent, words_long}
use Rattle.wellformed.proofs.Answering.{malformed, counted}
use Rattle.model.specs.Params.{InRange}
use Rattle.limits.specs.Limits.{any_word}
use Rattle.nodes.specs.NodeLimits.{NodesFit, node_limits}
use Rattle.layout.proofs.Checked.{head-facts}
use Rattle.layout.specs.Words.{head_fits, processes_fit, well_formed}
use Rattle.layout.specs.Encode.{shape, params_in}
use Rattle.layout.specs.Shape.{nodes_start, word_count_by}
use Rattle.layout.specs.Codecs.{clock_word}
use Rattle.std.proofs.Common.{◌≡◌, ◌-◌, ◌≤◌, ℕ, List, Bool, true, ◌&&◌, length, take, drop, sym, ap, ◌∙◌, arith, rules}
use Rattle.wellformed.proofs.checked.Goals as goal

-- what the test of the head says of the parameters
ranges : (ws : List ℕ) {b : Bool} → b ≡ head_fits (shape.head.get ws) → b ≡ true → InRange (params_in ws)
ranges ws e t = (head-facts _ (sym e ∙ t)).params

-- what the pass finds, past the tests of the head and the length
module _ (ws : List ℕ) where
  found-fits : head_fits (shape.head.get ws) ≡ true → length ws ≡ word_count_by shape (params_in ws) → {a : ℕ}
      → a ≡ nodes_start shape (params_in ws).processes (params_in ws).hazards → (shape.head.get ws).clock ≤ any_word
      → {x y : Bool} {limits : List ℕ} → x ≡ processes_fit ws
      → NodesFit x (params_in ws).nodes (take (length ws - a) (drop a ws)) limits y
      → limits ≡ node_limits ((params_in ws).processes - 1) (shape.head.get ws).clock → y ≡ well_formed ws
  found-fits h l e small {x} {y} hx fits by =
      let n = (head-facts _ h).params.processes in
      all-fits ws x y h l hx (fits _ _ n.0 (omega (arith, n.1)) small by ∙ ap (λ (b : Bool). x && b) (nodes-are ws e))

pub returns-then-words-lt-WIDTH : goal.returns-then-words-lt-WIDTH
returns-then-words-lt-WIDTH c = malformed _ _ (too_short c.args.words.now (omega arith))

pub returns-then-not-head_fits : goal.returns-then-not-head_fits
returns-then-not-head_fits c =
    malformed _ _
    (bad-head c.args.words.now (sym c.head_fits.ensures ∙ c.if-not-head_fits.true))

pub process_start-a-requires : goal.process_start-a-requires
process_start-a-requires c =
    let r = ranges c.args.words.now c.head_fits.ensures c.if-not-head_fits.false in
    (r.hazards.1, r.processes.1)

pub nodes_width-requires : goal.nodes_width-requires
nodes_width-requires c = (ranges c.args.words.now c.head_fits.ensures c.if-not-head_fits.false).nodes.1

pub returns-then-words-a : goal.returns-then-words-a
returns-then-words-a c =
    let ws = c.args.words.now in
    malformed ws _
    (bad-length ws (λ e. c.if-words-a.true (e ∙ sym (words_long ws c.process_start-a.ensures.0 c.nodes_width.ensures))))

pub overflow_sub-n : goal.overflow_sub-n
overflow_sub-n c = omega (arith, (ranges c.args.words.now c.head_fits.ensures c.if-not-head_fits.false).processes.0)

pub processes_faults-faults-requires : goal.processes_faults-faults-requires
processes_faults-faults-requires c =
    let ws = c.args.words.now in
    ready ws (sym c.head_fits.ensures ∙ c.if-not-head_fits.false) (c.if-words-a.false ∙ words_long ws c.process_start-a.ensures.0 c.nodes_width.ensures)

pub go_over-requires : goal.go_over-requires
go_over-requires c =
    let ws = c.args.words.now in
    let r = ranges c.args.words.now c.head_fits.ensures c.if-not-head_fits.false in
    (nodes-lent ws c.process_start-a.ensures.0 r.nodes.1 (c.if-words-a.false ∙ words_long ws c.process_start-a.ensures.0 c.nodes_width.ensures), search rules)

pub returns : goal.returns
returns c =
    let ws = c.args.words.now in
    let h = sym c.head_fits.ensures ∙ c.if-not-head_fits.false in
    let l = c.if-words-a.false ∙ words_long ws c.process_start-a.ensures.0 c.nodes_width.ensures in
    let small : (shape.head.get ws).clock ≤ any_word = omega (arith, c.type_inv.words clock_word) in
    let fits =
    found-fits ws h l c.process_start-a.ensures.0 small c.processes_faults-faults.ensures c.go_over.ensures.fits
    c.node_limits-limits.ensures in
    counted ws _ fits (nodes_in_lem ws c.process_start-a.ensures.0) c.go_over.ensures.counted
