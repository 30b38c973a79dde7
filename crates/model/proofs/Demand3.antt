-- Demand 3: over any list of steps from a fresh domain, step by step the simulation and the bound. Assumes nothing.
use Prim.Native.Nat.{ℕ}
use mathlib.Core.List.{List, [], ◌∷◌}
use mathlib.Core.Path.{◌≡◌}
use Rattle.lists.specs.Tests.{count}
use Rattle.lists.proofs.Counts.{count_map}
use Rattle.model.specs.Params.{Params}
use Rattle.model.specs.State.{Domain, Step}
use Rattle.model.specs.Retire.{retired_by}
use Rattle.model.specs.Machine.{step, fresh}
use Rattle.model.specs.Claims.{History, no_history, recorded, unfreed, Follows, Demand3}
use Rattle.model.proofs.Invariant.{Inv}
use Rattle.model.proofs.Preserved.{invariant-step, invariant-fresh}
use Rattle.model.proofs.Image.{cell, image, image-agrees, image-fresh}
use Rattle.model.proofs.Simulation.{sim-step}
use Rattle.model.proofs.Bound.{Fits, past-step, past-fresh}

-- the unfreed retired nodes of the image are the Retired nodes
unfreed-image : (p : ℕ) (d : Domain) → count (unfreed p) (image d).cells ≡ count (retired_by p) d.nodes
unfreed-image p d = count_map (unfreed p) cell d.nodes

pub follows : (a : Params) (ss : List Step) (d : Domain) (h : History) → Inv d → Fits a d h → Follows a (image d) d h ss
follows a [] d h i f = tt
follows a (s ∷ ss) d h i f =
    let m = sim-step d s i in
    let p = past-step a (image d) h d s i f (λ r. unfreed-image r d) in
    let j = invariant-step d s i in (
      m.chosen,
      record {
        questions = m.questions;
        value = m.value;
        many = m.many;
        freeable = m.freeable;
        agrees = rw m.lands (image-agrees a (step d s).after p.fits.params j.shape);
      },
      (λ ok r. rw (m.lands, unfreed-image s.process (step d s).after) (p.bounded ok r)),
      rw m.lands (follows a ss (step d s).after (recorded (image d) s (step d s) h) j p.fits),
    )

pub demand-3 : Demand3
demand-3 a ss = rw (image-fresh a) (follows a ss (fresh a) no_history (invariant-fresh a) (past-fresh a))
