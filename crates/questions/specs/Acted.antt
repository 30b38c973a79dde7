-- What a kind asks of sound words, and does to them. Assumes nothing.
use Rattle.std.specs.Prelude.{ℕ, List, ◌≡◌}
use Rattle.model.specs.Kinds.{Kind, number_of}
use Rattle.model.specs.Questions.{refusal_of}
use Rattle.model.specs.Machine.{act}
use Rattle.layout.specs.Encode.{decode}
use Rattle.layout.specs.Sound.{Sound}
use Rattle.domain.specs.Effects.{Does, given}

-- every question of kind k is answered yes, for this process, hazard, node and guest (0 for what the kind does not read)
abbrev pub Ready : Kind → List ℕ → ℕ → ℕ → ℕ → ℕ → Type 0
Ready k ws p h c guest = Sound ws × (refusal_of k (decode ws) (given (number_of k) p h c guest) ≡ 0)

-- what kind k does is done: words ws' afterwards, value v
abbrev pub Acted : Kind → List ℕ → ℕ → ℕ → ℕ → ℕ → List ℕ → ℕ → Type 0
Acted k ws p h c guest ws' v = Does (act k (decode ws) (given (number_of k) p h c guest)) ws' v
