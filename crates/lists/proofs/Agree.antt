-- Two tests that agree at every place of a list: they sweep and count the same. Assumes nothing.
use Prim.Native.Nat.{ℕ, suc, ◌+◌, ◌<◌}
use mathlib.Core.Bool.{Bool}
use mathlib.Core.List.{List, [], ◌∷◌}
use mathlib.Core.Path.{◌≡◌, refl}
use native.Mathlib.Omega.{arith}
use lib.ListN.{length}
use Rattle.lists.specs.Tests.{count_from}
use Rattle.lists.specs.Sweep.{sweep_from}

module _ {A : Type 0} (f g : ℕ → A → Bool) where
  pub sweep-agree : (z : A) (i : ℕ) (l : List A) → ((c : ℕ) (x : A) → c < i + length l → f c x ≡ g c x)
      → sweep_from z f i l ≡ sweep_from z g i l
  sweep-agree z i [] h = refl
  sweep-agree z i (x ∷ xs) h = rw (h i x (omega arith), sweep-agree z (suc i) xs (λ c y l. h c y (omega arith)))

  pub count-agree : (i : ℕ) (l : List A) → ((c : ℕ) (x : A) → c < i + length l → f c x ≡ g c x) → count_from f i l ≡ count_from g i l
  count-agree i [] h = refl
  count-agree i (x ∷ xs) h = rw (h i x (omega arith), count-agree (suc i) xs (λ c y l. h c y (omega arith)))
