-- What make leaves where it accepts: the words of a fresh domain, with parameters in their ranges. Assumes nothing.
use Prim.Native.Nat.{ℕ}
use mathlib.Core.List.{List}
use mathlib.Core.Path.{◌≡◌, refl}
use native.Mathlib.Omega.{arith}
use lib.ListN.{length}
use lib.Dec.{eqb}
use Rattle.lists.proofs.Bools.{by_cond}
use Rattle.model.specs.Params.{Params, InRange, word_count}
use Rattle.model.specs.Machine.{fresh}
use Rattle.layout.specs.Encode.{encode}
use Rattle.layout.specs.Ranges.{in_range}
use Rattle.layout.proofs.Ranges.{in_range_lem}
use Rattle.qsense.specs.Calls.{Reply, make_words}

pub record Made (a : Params) (r : Reply) : Type 0 where
  pub range : InRange a
  pub words : r.words ≡ encode (fresh a)

pub made : (ws : List ℕ) (a : Params) → (make_words ws a).refusal ≡ 0 → Made a (make_words ws a)
unfolding make_words
made ws a =
    by_cond (λ r. r.refusal ≡ 0 → Made a r) (in_range a)
    (λ i. by_cond (λ r. r.refusal ≡ 0 → Made a r) (eqb (length ws) (word_count a))
    (λ _ _. record { range = in_range_lem a i; words = refl })
    (λ _ no'. absurd (omega arith)))
    (λ _ no'. absurd (omega arith))
