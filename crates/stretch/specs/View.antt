-- Pending stores put over what hazards show; and whether they show a node to others. Assumes nothing.
use Rattle.std.specs.Prelude.{ℕ, ◌+◌, Bool, not, List, [], ◌∷◌, set, eqb}
use Rattle.lists.specs.Upto.{all_upto}
use Rattle.model.specs.State.{Pending, Process, hazard_of}

-- a number for each hazard, with the node of each store put in its hazard's place, the oldest first
abbrev pub overlaid : List Pending → List ℕ → List ℕ
overlaid [] vs = vs
overlaid (w ∷ b) vs = overlaid b (set vs w.hazard w.node)

-- hazard h of a process shows v to others
abbrev pub shows_at : Process → ℕ → ℕ → Bool
shows_at x v h = eqb (hazard_of x h).visible v

-- none of n hazards from h on does
abbrev pub hide : Process → ℕ → ℕ → ℕ → Bool
hide x v h n = all_upto (λ j. not (shows_at x v (h + j))) n
