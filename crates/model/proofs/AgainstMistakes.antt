-- Each of forty-three plausible mistakes is told from the rules by a closed schedule, and each of nine in what a portion says by its numbers, by
-- computation. Assumes nothing.
use Prim.Native.Nat.{ℕ, ◌+◌}
use mathlib.Core.Bool.{false, false≢true}
use mathlib.Core.List.{List, [], ◌∷◌}
use mathlib.Core.Logic.{◌≢◌}
use mathlib.Core.Path.{◌≡◌, refl, ap, sym, ◌∙◌}
use lib.Dec.{eqb}
use borrow.Author.Tests.{eq-eqb}
use Rattle.lists.specs.Tests.{All}
use Rattle.model.specs.Machine.{step, portioned, fresh}
use Rattle.model.specs.Cases.{Answer, Numbers}
use Rattle.model.specs.ToldApart.{ToldApart, mistakes}
use Rattle.model.specs.PortionMistakes.{ToldByNumbers, portion_mistakes}
use Rattle.model.proofs.Each.{◌then◌}

-- the numbers of all answers, added up
abbrev sum : List Answer → ℕ
sum [] = 0
sum (x ∷ xs) = x.refusal + x.value + sum xs

apart : (xs ys : List Answer) → eqb (sum xs) (sum ys) ≡ false → xs ≢ ys
apart xs ys h e = false≢true (sym h ∙ eq-eqb (sum xs) (sum ys) (ap sum e))

abbrev sum_of : Numbers → ℕ
sum_of x = x.refusal + x.freed + x.examined + x.next + x.left

numbers_apart : (x y : Numbers) → eqb (sum_of x) (sum_of y) ≡ false → x ≢ y
numbers_apart x y h e = false≢true (sym h ∙ eq-eqb (sum_of x) (sum_of y) (ap sum_of e))

-- a line a mistake, in the list's order
pub told-apart : All ToldApart mistakes
unfolding step fresh
told-apart =
    (refl, refl, apart _ _ refl)
    then (refl, refl, apart _ _ refl)
    then (refl, refl, apart _ _ refl)
    then (refl, refl, apart _ _ refl)
    then (refl, refl, apart _ _ refl)
    then (refl, refl, apart _ _ refl)
    then (refl, refl, apart _ _ refl)
    then (refl, refl, apart _ _ refl)
    then (refl, refl, apart _ _ refl)
    then (refl, refl, apart _ _ refl)
    then (refl, refl, apart _ _ refl)
    then (refl, refl, apart _ _ refl)
    then (refl, refl, apart _ _ refl)
    then (refl, refl, apart _ _ refl)
    then (refl, refl, apart _ _ refl)
    then (refl, refl, apart _ _ refl)
    then (refl, refl, apart _ _ refl)
    then (refl, refl, apart _ _ refl)
    then (refl, refl, apart _ _ refl)
    then (refl, refl, apart _ _ refl)
    then (refl, refl, apart _ _ refl)
    then (refl, refl, apart _ _ refl)
    then (refl, refl, apart _ _ refl)
    then (refl, refl, apart _ _ refl)
    then (refl, refl, apart _ _ refl)
    then (refl, refl, apart _ _ refl)
    then (refl, refl, apart _ _ refl)
    then (refl, refl, apart _ _ refl)
    then (refl, refl, apart _ _ refl)
    then (refl, refl, apart _ _ refl)
    then (refl, refl, apart _ _ refl)
    then (refl, refl, apart _ _ refl)
    then (refl, refl, apart _ _ refl)
    then (refl, refl, apart _ _ refl)
    then (refl, refl, apart _ _ refl)
    then (refl, refl, apart _ _ refl)
    then (refl, refl, apart _ _ refl)
    then (refl, refl, apart _ _ refl)
    then (refl, refl, apart _ _ refl)
    then (refl, refl, apart _ _ refl)
    then (refl, refl, apart _ _ refl)
    then (refl, refl, apart _ _ refl)
    then (refl, refl, apart _ _ refl)
    then tt

pub told-by-numbers : All ToldByNumbers portion_mistakes
unfolding portioned
told-by-numbers =
    (refl, refl, numbers_apart _ _ refl, refl)
    then (refl, refl, numbers_apart _ _ refl, refl)
    then (refl, refl, numbers_apart _ _ refl, refl)
    then (refl, refl, numbers_apart _ _ refl, refl)
    then (refl, refl, numbers_apart _ _ refl, refl)
    then (refl, refl, numbers_apart _ _ refl, refl)
    then (refl, refl, numbers_apart _ _ refl, refl)
    then (refl, refl, numbers_apart _ _ refl, refl)
    then (refl, refl, numbers_apart _ _ refl, refl)
    then tt
