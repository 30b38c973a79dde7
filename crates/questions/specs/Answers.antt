-- The model's questions of a step on words, by their numbers, and what the words say of the things that they are about. Assumes nothing.
use Rattle.std.specs.Prelude.{ℕ, Bool, true, cond, List, [], ◌∷◌, eqb}
use Rattle.model.specs.State.{Hazard, Node, hazard_of, node_of}
use Rattle.model.specs.Kinds.{Kind, number_of}
use Rattle.model.specs.Hazards.{target}
use Rattle.model.specs.Questions.{Question, questions}
use Rattle.layout.specs.Encode.{decode}
use Rattle.domain.specs.Effects.{process_in, given}

-- the answer to the question of number n; yes where it is none of these
abbrev pub answer_to : ℕ → List Question → Bool
answer_to n [] = true
answer_to n (q ∷ qs) = cond (eqb q.number n) q.yes' (answer_to n qs)

-- the questions of a step of kind k, and of this process, hazard, node and guest
abbrev pub asked : Kind → List ℕ → ℕ → ℕ → ℕ → ℕ → List Question
asked k ws p h c guest = questions k (decode ws) (given (number_of k) p h c guest)

-- hazard h of process p, the node assigned to that, and node c; past the last, zeros
abbrev pub hazard_in : List ℕ → ℕ → ℕ → Hazard
hazard_in ws p h = hazard_of (process_in ws p) h

abbrev pub target_in : List ℕ → ℕ → ℕ → Node
target_in ws p h = target (decode ws) (given 0 p h 0 0)

abbrev pub node_in : List ℕ → ℕ → Node
node_in ws c = node_of (decode ws) c
