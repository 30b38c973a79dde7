-- Paths told apart, as the code tells them: by their numbers. Assumes nothing.
use mathlib.Core.Path.{◌≡◌, refl, sym, ◌∙◌}
use mathlib.Core.Bool.{Bool, true, false, not}
use mathlib.Core.Logic.{◌≢◌}
use borrow.Author.Tests.{eqb-true, eqb-false}
use lib.Dec.{eqb}
use denote.Enum.Bare.{sameb}
use Rattle.layout.specs.Values.{path_number}
use Rattle.layout.specs.contracts.Path.{the_type}
use Rattle.layout.specs.declared.Path.{Path}
use Rattle.layout.specs.declared.Path.TheVariants.{Fast, Fallback}

same-path : (v w : Path) → sameb the_type v w ≡ eqb (path_number v) (path_number w)
same-path Fast Fast = refl
same-path Fast Fallback = refl
same-path Fallback Fast = refl
same-path Fallback Fallback = refl

is-true : (b : Bool) → false ≡ not b → b ≡ true
is-true true h = refl
is-true false h = h

-- after `!=`, and after `==`
pub same-number : (v w : Path) → false ≡ not (sameb the_type v w) → path_number v ≡ path_number w
same-number v w h = eqb-true _ _ (sym (same-path v w) ∙ is-true _ h)

pub other-number : (v w : Path) → false ≡ sameb the_type v w → path_number v ≢ path_number w
other-number v w h = eqb-false _ _ (sym (h ∙ same-path v w))
