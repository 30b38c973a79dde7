-- The closed runs in rounds are as they are told, by computation, and refute the claim with fewer rounds and of wrong rules. Assumes nothing.
use mathlib.Core.Bool.{false≢true}
use mathlib.Core.List.{[], ◌∷◌}
use mathlib.Core.Path.{refl}
use lib.ListN.{replicate}
use Rattle.lists.specs.Tests.{All}
use Rattle.lists.specs.Upto.{all_upto}
use Rattle.model.specs.Machine.{step, fresh}
use Rattle.model.specs.RoundCases.{HoldsInRounds, round_cases, slow, both, TooFew}
use Rattle.model.specs.Cases.{manage}
use Rattle.model.proofs.Each.{◌then◌}

-- a line a run, in the list's order
pub in_rounds_lem : All HoldsInRounds round_cases
unfolding step fresh all_upto
in_rounds_lem =
    record { retired = refl; told = refl }
    then record { retired = refl; told = refl }
    then record { retired = refl; told = refl }
    then record { retired = refl; told = refl }
    then record { retired = refl; told = refl }
    then record { retired = refl; told = refl }
    then record { retired = refl; told = refl }
    then record { retired = refl; told = refl }
    then record { retired = refl; told = refl }
    then record { retired = refl; told = refl }
    then record { retired = refl; told = refl }
    then record { retired = refl; told = refl }
    then record { retired = refl; told = refl }
    then record { retired = refl; told = refl }
    then record { retired = refl; told = refl }
    then record { retired = refl; told = refl }
    then tt

pub too_few : TooFew
unfolding step fresh all_upto
too_few =
    record {
      six = λ f. false≢true (f slow 0 refl refl refl refl refl);
      five_alone = λ f. false≢true (f (replicate 5 (manage 0 ∷ [])) 0 refl refl refl refl refl);
      advance_waits' = λ f. false≢true (f (replicate 7 (both 0 1)) 0 refl refl refl refl refl);
      counts_past_q' = λ f. false≢true (f (replicate 7 (both 0 1)) 0 refl refl refl refl refl);
    }
