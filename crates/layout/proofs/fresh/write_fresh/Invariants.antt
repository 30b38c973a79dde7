-- `fresh::write_fresh` meets its contract: all words 0, then the parameters in the first seven, then the processes present. The loop's
-- invariant: the first p processes are. Assumes nothing.
use Prim.Native.Nat.{◌≤◌}
use mathlib.Core.Path.{◌≡◌}
use lib.ListN.{length}
use Rattle.model.specs.Params.{word_count}
use Rattle.layout.specs.Values.{params_value}
use Rattle.layout.proofs.FreshWords.{present_to}
use Rattle.layout.proofs.fresh.write_fresh.Given as goal

abbrev pub invariant-loop-p : goal.invariant-loop-p
invariant-loop-p l =
    (l.p ≤ l.params.processes) × (length l.words ≡ word_count (params_value l.params)) × (l.words ≡ present_to l.params.hazards l.p l.initial.words)
