-- What the tests of the parameters say. Assumes nothing.
use Prim.Native.Nat.{ℕ, ◌≤◌}
use native.Mathlib.Omega.{arith}
use mathlib.Core.Bool.{true}
use mathlib.Core.Path.{◌≡◌}
use borrow.Author.Tests.{leb-true}
use Rattle.lists.proofs.Bools.{both}
use Rattle.model.specs.Params.{Params, Between, InRange, most_processes, most_hazards, most_nodes, most_ticks, most_calls}
use Rattle.model.specs.Params.{most_retired, word_count}
use Rattle.layout.specs.Words.{between}
use Rattle.layout.proofs.Checked.{within}
use Rattle.layout.specs.Encode.{shape}
use Rattle.layout.proofs.Room.{rows-small}
use Rattle.layout.specs.Ranges.{sizes_in_range, in_range, length_for, most_words}

sizes-of : (a : Params) → in_range a ≡ true → sizes_in_range a.processes a.hazards a.nodes ≡ true
unfolding in_range
sizes-of a e = (both (sizes_in_range a.processes a.hazards a.nodes) _ e).0

pub record SizesInRange (n k m : ℕ) : Type 0 where
  pub processes : Between 1 most_processes n
  pub hazards : Between 1 most_hazards k
  pub nodes : Between 1 most_nodes m

pub sizes_in_range_lem : (n k m : ℕ) → sizes_in_range n k m ≡ true → SizesInRange n k m
unfolding sizes_in_range
sizes_in_range_lem n k m e =
    let e₀ = both (between 1 most_processes n) _ e in
    let e₁ = both (between 1 most_hazards k) _ e₀.1 in
    record { processes = within 1 most_processes n e₀.0; hazards = within 1 most_hazards k e₁.0; nodes = within 1 most_nodes m e₁.1 }

pub in_range_lem : (a : Params) → in_range a ≡ true → InRange a
unfolding in_range
in_range_lem a e =
    let e₀ = both (sizes_in_range a.processes a.hazards a.nodes) _ e in
    let e₁ = both (between 1 most_ticks a.visibility_bound) _ e₀.1 in
    let e₂ = both (between 1 most_calls a.quiescence_threshold) _ e₁.1 in
    let e₃ = both (between 1 most_retired a.fallback_threshold) _ e₂.1 in
    let sizes = sizes_in_range_lem a.processes a.hazards a.nodes e₀.0 in
    record {
      processes = sizes.processes;
      hazards = sizes.hazards;
      nodes = sizes.nodes;
      visibility_bound = within 1 most_ticks _ e₁.0;
      quiescence_threshold = within 1 most_calls _ e₂.0;
      fallback_threshold = within 1 most_retired _ e₃.0;
      lateness = leb-true _ _ e₃.1;
    }

pub length-in-range : (a : Params) → in_range a ≡ true → length_for a.processes a.hazards a.nodes ≡ word_count a
unfolding length_for
length-in-range a e = rw (sizes-of a e)

pub words-most : (a : Params) → InRange a → word_count a ≤ most_words
words-most a r =
    let rows = rows-small shape a.processes a.hazards r.processes.1 r.hazards.1 in omega (arith, rows, r.nodes)
