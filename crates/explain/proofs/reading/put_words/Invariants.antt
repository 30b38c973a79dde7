-- `reading::put_words` meets its contract. The loop's invariant: the first i words are there (`Filled`). Assumes nothing.
use Prim.Native.Nat.{◌≤◌}
use mathlib.Core.Path.{◌≡◌}
use lib.ListN.{length}
use Rattle.explain.proofs.WordsOf.{Filled}
use Rattle.explain.proofs.reading.put_words.Given as goal

abbrev pub invariant-loop-i : goal.invariant-loop-i
invariant-loop-i l = (l.i ≤ length l.words) × (length l.words ≡ length l.initial.words) × Filled l.bytes l.i l.words
