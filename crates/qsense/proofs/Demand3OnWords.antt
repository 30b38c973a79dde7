-- The model's claim over a list of steps, carried to the words of the domain. Assumes nothing.
use Prim.Native.Nat.{ℕ}
use mathlib.Core.List.{List, [], ◌∷◌}
use mathlib.Core.Path.{◌≡◌, refl, sym, subst}
use Rattle.model.specs.Params.{Params}
use Rattle.model.specs.State.{Domain, Step}
use Rattle.model.specs.WellFormed.{WellFormed}
use Rattle.model.specs.Machine.{Outcome, step}
use Rattle.model.specs.Reference.{Reference, free_each}
use Rattle.model.specs.Claims.{Matches, Bounded, History, recorded, led, Follows}
use Rattle.model.proofs.Theorems.{step-well-formed}
use Rattle.layout.specs.Encode.{encode}
use Rattle.layout.proofs.Sound.{decoded}
use Rattle.qsense.specs.Calls.{Reply, through_words}
use Rattle.qsense.specs.Demands.{outcome_of, FollowsWords}
use Rattle.qsense.proofs.ModelOnWords.{step_through}

-- the outcome that the reply holds is the model's
outcome-back : (o : Outcome) → WellFormed o.after → outcome_of (through_words o) ≡ o
outcome-back o f = λ t. record { refusal = o.refusal; value = o.value; after = decoded refl f t }

-- one step, and what follows on the words ws
abbrev Linked : Params → Reference → Step → History → List Step → List ℕ → Outcome → Type 0
Linked a q s h ss ws o =
    (cs : List ℕ)
    × Matches a q s o cs
    × Bounded a (recorded q s o h) s o (free_each (led q s o) cs)
    × FollowsWords a (free_each (led q s o) cs) ws (recorded q s o h) ss

pub follows-words : (a : Params) (ss : List Step) {d : Domain} (q : Reference) (h : History) → WellFormed d
    → Follows a q d h ss → FollowsWords a q (encode d) h ss
follows-words a [] q h f m = tt
follows-words a (s ∷ ss) {d} q h f (cs, m, b, r) =
    let g = step-well-formed d s f in
    let linked : Linked a q s h ss (encode (step d s).after) (step d s) =
    (cs, m, b, follows-words a ss (free_each (led q s (step d s)) cs) (recorded q s (step d s) h) g r) in
    subst (λ (x : Reply). Linked a q s h ss x.words (outcome_of x)) (sym (step_through f s))
    (subst (Linked a q s h ss (encode (step d s).after)) (sym (outcome-back (step d s) g)) linked)
