-- What is noted leaves no fault exactly where there was none and it is none: one thing, and four words against four limits. Assumes
-- nothing.
use Rattle.std.proofs.Common.{◌≡◌, ℕ, ◌+◌, Bool, true, false, not, ◌&&◌, ◌||◌, ltb, leb, List, sym, refl, ap, ◌∙◌}
use mathlib.Core.Bool.{and_assoc, and_comm, not-not}
use Rattle.lists.proofs.UptoParts.{and-swap}
use Rattle.layout.specs.Shape.{word}
use Rattle.limits.specs.declared.Faults.{Faults}
use Rattle.limits.specs.Limits.{none, within}
use Rattle.limits.proofs.Tests.{over}

nor : (a b : Bool) → not (a || b) ≡ (not a && not b)
nor true b = refl
nor false b = refl

last : (a b c : Bool) → (a && b && c) ≡ (a && c && b)
last a b c = and_assoc a b c ∙ ap (λ (x : Bool). a && x) (and_comm b c) ∙ sym (and_assoc a c b)

pub nothing-amiss : none (record { first = false; second = false; third = false; fourth = false; other = false }) ≡ true
unfolding none
nothing-amiss = refl

pub noted-none : (f : Faults) (b : Bool)
    → none
    (record {
      first = f.first;
      second = f.second;
      third = f.third;
      fourth = f.fourth;
      other = f.other || b;
    })
    ≡ (none f && not b)
unfolding none
noted-none f b = rw (nor f.other b) (simp and_assoc)

-- ---- a piece

-- one lane
lane : (a w : Bool) → not (a || not w) ≡ (not a && w)
lane a w = nor a (not w) ∙ ap (λ (x : Bool). not a && x) (not-not w)

lanes : (a b c d r w x y z : Bool)
    → (not (a || not w) && (not (b || not x) && (not (c || not y) && (not (d || not z) && r))))
    ≡ ((not a && (not b && (not c && (not d && r)))) && (w && (x && (y && z))))
lanes a b c d r w x y z =
    rw (
      lane a w,
      lane b x,
      lane c y,
      lane d z,
      last (not d) z r,
      and-swap (not c) y (not d && r) z,
      and-swap (not b) x (not c && (not d && r)) (y && z),
      and-swap (not a) w (not b && (not c && (not d && r))) (x && (y && z)),
    )

pub piece-none : (f : Faults) (ws : List ℕ) (a t x y z : ℕ)
    → none
    (record {
      first = f.first || ltb t (word ws a);
      second = f.second || ltb x (word ws (a + 1));
      third = f.third || ltb y (word ws (a + 2));
      fourth = f.fourth || ltb z (word ws (a + 3));
      other = f.other;
    })
    ≡ (none f && within ws a t x y z)
unfolding none within
piece-none f ws a t x y z =
    rw (
      over (word ws a) t,
      over (word ws (a + 1)) x,
      over (word ws (a + 2)) y,
      over (word ws (a + 3)) z,
    )
    (lanes
    f.first
    f.second
    f.third
    f.fourth
    (not f.other)
    (leb (word ws a) t)
    (leb (word ws (a + 1)) x)
    (leb (word ws (a + 2)) y)
    (leb (word ws (a + 3)) z))
