-- A loop over the elements of a list that keeps whether all so far pass. Assumes nothing.
use Prim.Native.Nat.{ℕ, ◌+◌, ◌<◌}
use mathlib.Core.Bool.{Bool, true, ◌&&◌, and_assoc, and-true}
use mathlib.Core.List.{List}
use mathlib.Core.Path.{◌≡◌, refl, sym, ap, ◌∙◌}
use native.Mathlib.Numerals.{add-one}
use lib.ListN.{length, drop, get_or}
use lib.Seq.{drop-cons, drop-length}
use Rattle.lists.specs.Tests.{every}

-- b says whether the first i pass: b and a test of the others is a test of all
pub record Tested {A : Type 0} (f : A → Bool) (l : List A) (i : ℕ) (b : Bool) : Type 0 where
  pub rest : (b && every f (drop i l)) ≡ every f l

module _ {A : Type 0} {f : A → Bool} {l : List A} where
  pub tested-none : Tested f l 0 true
  tested-none = record { rest = refl }

  pub tested-more : {i : ℕ} {b q : Bool} (a : A) → Tested f l i b → i < length l → q ≡ f (get_or l i a) → Tested f l (i + 1) (b && q)
  tested-more {i} {b} {q} a t h e =
      record {
        rest = rw (add-one, e) (and_assoc b (f (get_or l i a)) _ ∙ (ap (λ r. b && every f r) (sym (drop-cons l i a h)) ∙ t.rest));
      }

  pub tested-all : {i : ℕ} {b : Bool} → Tested f l i b → i ≡ length l → b ≡ every f l
  tested-all {i} {b} t e = sym (and-true b) ∙ (ap (λ r. b && every f r) (sym (drop-length l)) ∙ (rw e at t.rest))
