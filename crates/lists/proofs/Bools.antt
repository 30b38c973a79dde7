-- Case analysis on a test, and what a compound test says of its parts. Assumes nothing.
use mathlib.Core.Bool.{Bool, true, false, not, ◌&&◌, ◌||◌, cond, false≢true}
use mathlib.Core.Path.{◌≡◌, refl, sym}
use Rattle.lists.specs.Tests.{implies}

-- what is to be shown of a choice is shown of both sides
pub by_cond {ℓ} : {A : Type ℓ} (P : A → Type 0) (b : Bool) {x y : A} → (b ≡ true → P x) → (b ≡ false → P y) → P (cond b x y)
by_cond P true h k = h refl
by_cond P false h k = k refl

-- a function of a choice is the choice of its values
pub through-cond : {A B : Type 0} (f : A → B) (b : Bool) (x y : A) → cond b (f x) (f y) ≡ f (cond b x y)
through-cond f true x y = refl
through-cond f false x y = refl

pub both : (a b : Bool) → (a && b) ≡ true → (a ≡ true) × (b ≡ true)
both true b h = (refl, h)
both false b h = absurd (false≢true h)

pub implied : (a b : Bool) → implies a b ≡ true → a ≡ true → b ≡ true
implied true b h e = h
implied false b h e = absurd (false≢true e)

pub imply : (a b : Bool) → (a ≡ true → b ≡ true) → implies a b ≡ true
imply true b f = f refl
imply false b f = refl

-- a test that is made only where the first holds, as code says it
pub or-implies : (a b : Bool) → (not a || b) ≡ implies a b
or-implies true b = refl
or-implies false b = refl

-- where the first holds and the second does not, and elsewhere
pub unmet : (a b : Bool) → (a && not b) ≡ true → implies a b ≡ false
unmet true true h = absurd (false≢true h)
unmet true false h = refl
unmet false b h = absurd (false≢true h)

pub met : (a b : Bool) → (a && not b) ≡ false → implies a b ≡ true
met true true h = refl
met true false h = absurd (false≢true (sym h))
met false b h = refl

-- a test that holds only where another does leaves nothing without that
pub not-alone : (a b : Bool) → (b ≡ true → a ≡ true) → (not a && b) ≡ false
not-alone true b f = refl
not-alone false true f = absurd (false≢true (f refl))
not-alone false false f = refl

-- two tests of which each holds where the other does
pub agree : (a b : Bool) → (a ≡ true → b ≡ true) → (b ≡ true → a ≡ true) → a ≡ b
agree true b h k = sym (h refl)
agree false true h k = k refl
agree false false h k = refl
