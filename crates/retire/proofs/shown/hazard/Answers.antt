-- `shown::hazard` meets its contract: there is room for what the hazards show. Assumes nothing.
use mathlib.Core.Path.{sym, ap, ◌∙◌}
use Rattle.layout.proofs.Sound.{head_words_lem}
use Rattle.retire.proofs.Unmarked.{room}
use native.Mathlib.Omega.{arith}
use Rattle.retire.proofs.shown.hazard.Goals as goal

pub hazard_in-requires : goal.hazard_in-requires
hazard_in-requires c =
    let h = c.requires in
    let few = h.0.domain.params.hazards in
    let k = ap (λ b. b.hazards) c.bounds.ensures in (
      h.0,
      h.1,
      room c.wide-k.result (omega (arith, few, k, c.wide-k.ensures.0))
          ∙ c.wide-k.ensures.0 ∙ k ∙ sym (head_words_lem c.args.words.now).hazards,
    )
