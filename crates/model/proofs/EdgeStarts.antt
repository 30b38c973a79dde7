-- Every case of the list starts well: from a fresh domain, or from `stopped`, `stray`, `parked`, `overdue` or `crowded`. Assumes nothing.
use Prim.Native.Nat.{ℕ, ◌≤◌}
use mathlib.Core.List.{List, [], ◌∷◌}
use mathlib.Core.Path.{◌≡◌, refl, sym}
use native.Mathlib.Omega.{arith}
use lib.ListN.{length}
use Rattle.lists.specs.Tests.{All}
use Rattle.model.specs.Params.{Params, InRange, last_clock}
use Rattle.model.specs.State.{Pending, Hazard, Node, Fallback}
use Rattle.model.specs.WellFormed.{WellFormed, NodeFits, HazardFits, PendingFits}
use Rattle.model.specs.Cases.{process, domain, stray, crowded}
use Rattle.model.specs.Edge.{StartsWell, parked, overdue, cases}
use Rattle.model.proofs.Each.{◌then◌}
use Rattle.model.proofs.WellFormed.{well-formed-fresh}

-- a process with a hazard and a store pending to it
lone-well : (a : Params) (t v : ℕ) (e : Pending) (h : Hazard) (ns : List Node) → InRange a → (a.processes ≡ 1) × (a.hazards ≡ 1)
    → (t ≤ last_clock) × (v ≤ Fallback) → length ns ≡ a.nodes → PendingFits a t e → HazardFits a h → All (NodeFits a t) ns
    → WellFormed (domain a t v 0 (process 0 0 0 (e ∷ []) (h ∷ []) ∷ []) ns)
lone-well a t v e h ns r one word many fe fh fn =
    record {
      params = r;
      clock = word.0;
      path = word.1;
      epoch = omega arith;
      process_count = sym one.0;
      node_count = many;
      processes = (
        record {
          words = omega (arith, r);
          stores = record { room = omega arith; width = sym one.1; buffer = (fe, tt); hazards = (fh, tt) };
        },
        tt,
      );
      nodes = fn;
    }

stray-well : WellFormed stray
stray-well = lone-well _ _ _ _ _ _ (omega arith) (refl, refl) (omega arith) refl (omega arith) (omega arith) (omega arith, (omega arith, (omega arith, tt)))

overdue-well : WellFormed overdue
overdue-well = lone-well _ _ _ _ _ _ (omega arith) (refl, refl) (omega arith) refl (omega arith) (omega arith) (omega arith, (omega arith, (omega arith, tt)))

-- two processes, the second absent with a store pending
parked-well : WellFormed parked
parked-well =
    record {
      params = omega arith;
      clock = omega arith;
      path = omega arith;
      epoch = omega arith;
      process_count = refl;
      node_count = refl;
      processes = (
        record { words = omega arith; stores = record { room = omega arith; width = refl; buffer = tt; hazards = (omega arith, tt) } },
        (
          record {
            words = omega arith;
            stores = record { room = omega arith; width = refl; buffer = (omega arith, tt); hazards = (omega arith, tt) };
          },
          tt,
        ),
      );
      nodes = (omega arith, (omega arith, tt));
    }

-- two processes with a hazard each, and seven nodes
crowded-well : WellFormed crowded
crowded-well =
    record {
      params = omega arith;
      clock = omega arith;
      path = omega arith;
      epoch = omega arith;
      process_count = refl;
      node_count = refl;
      processes = (
        record { words = omega arith; stores = record { room = omega arith; width = refl; buffer = tt; hazards = (omega arith, tt) } },
        (record { words = omega arith; stores = record { room = omega arith; width = refl; buffer = tt; hazards = (omega arith, tt) } }, tt),
      );
      nodes = (omega arith, (omega arith, (omega arith, (omega arith, (omega arith, (omega arith, (omega arith, tt)))))));
    }

-- a line a case, in the list's order
pub starts-well : All StartsWell cases
starts-well =
    omega arith
    then omega arith
    then well-formed-fresh _ (omega arith)
    then well-formed-fresh _ (omega arith)
    then well-formed-fresh _ (omega arith)
    then well-formed-fresh _ (omega arith)
    then well-formed-fresh _ (omega arith)
    then well-formed-fresh _ (omega arith)
    then well-formed-fresh _ (omega arith)
    then well-formed-fresh _ (omega arith)
    then well-formed-fresh _ (omega arith)
    then lone-well _ _ _ _ _ _ (omega arith) (refl, refl) (omega arith) refl (omega arith) (omega arith) (omega arith, tt)
    then well-formed-fresh _ (omega arith)
    then well-formed-fresh _ (omega arith)
    then well-formed-fresh _ (omega arith)
    then well-formed-fresh _ (omega arith)
    then well-formed-fresh _ (omega arith)
    then well-formed-fresh _ (omega arith)
    then stray-well
    then well-formed-fresh _ (omega arith)
    then well-formed-fresh _ (omega arith)
    then well-formed-fresh _ (omega arith)
    then well-formed-fresh _ (omega arith)
    then well-formed-fresh _ (omega arith)
    then well-formed-fresh _ (omega arith)
    then well-formed-fresh _ (omega arith)
    then well-formed-fresh _ (omega arith)
    then well-formed-fresh _ (omega arith)
    then well-formed-fresh _ (omega arith)
    then well-formed-fresh _ (omega arith)
    then well-formed-fresh _ (omega arith)
    then well-formed-fresh _ (omega arith)
    then well-formed-fresh _ (omega arith)
    then omega arith
    then well-formed-fresh _ (omega arith)
    then well-formed-fresh _ (omega arith)
    then parked-well
    then omega arith
    then well-formed-fresh _ (omega arith)
    then well-formed-fresh _ (omega arith)
    then well-formed-fresh _ (omega arith)
    then overdue-well
    then omega arith
    then crowded-well
    then crowded-well
    then crowded-well
    then crowded-well
    then crowded-well
    then crowded-well
    then crowded-well
    then crowded-well
    then crowded-well
    then crowded-well
    then crowded-well
    then crowded-well
    then crowded-well
    then parked-well
    then parked-well
    then stray-well
    then well-formed-fresh _ (omega arith)
    then overdue-well
    then well-formed-fresh _ (omega arith)
    then crowded-well
    then crowded-well
    then tt
