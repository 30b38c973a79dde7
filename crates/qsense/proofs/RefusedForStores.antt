-- A refusal with 13 or 16 is for pending stores: the question's own answer is no. Assumes nothing.
use Prim.Native.Nat.{ℕ, ◌≤◌}
use mathlib.Core.Bool.{Bool, true, false, ◌&&◌, ◌||◌, false≢true}
use mathlib.Core.List.{List, [], ◌∷◌}
use mathlib.Core.Path.{◌≡◌, refl, sym, ◌∙◌}
use mathlib.Core.Logic.{◌≢◌}
use native.Mathlib.Omega.{arith}
use borrow.Author.Tests.{eq-eqb, ltb-false}
use lib.ListN.{length}
use lib.Dec.{eqb, ltb}
use Rattle.lists.specs.Tests.{every, implies}
use Rattle.lists.proofs.Bools.{by_cond, both, implied}
use Rattle.model.specs.Params.{buffer_size}
use Rattle.model.specs.State.{Domain, Step}
use Rattle.model.specs.Kinds.{Kind, is, Protect, Clear, Tick}
use Rattle.model.specs.Hazards.{here, young}
use Rattle.model.specs.Questions.{Question, first_no, questions, refusal_of}

-- where question n is answered yes it is not the first no
not_first : (n : ℕ) → n ≢ 0 → (qs : List Question) → every (λ q. implies (eqb q.number n) q.yes') qs ≡ true → first_no qs ≢ n
not_first n z [] h = λ e. z (sym e)
not_first n z (q ∷ qs) h =
    let b = both (implies (eqb q.number n) q.yes') _ h in
    by_cond (λ (m : ℕ). m ≢ n) q.yes' (λ _. not_first n z qs b.1)
    (λ no' e. false≢true (sym no' ∙ implied _ _ b.0 (eq-eqb _ _ e)))

alone : (a b : Bool) → b ≡ true → (implies a b && true) ≡ true
alone true b h = rw h
alone false b h = refl

module _ (k : Kind) (d : Domain) (s : Step) where
  pub full : refusal_of k d s ≡ 13 → buffer_size ≤ length (here d s).buffer
  full e = by (ltb (length (here d s).buffer) buffer_size) refl
    where
      by : (b : Bool) → ltb (length (here d s).buffer) buffer_size ≡ b → buffer_size ≤ length (here d s).buffer
      by true h = absurd (not_first 13 (omega arith) (questions k d s) (alone (is k Protect || is k Clear) _ h) e)
      by false h = omega (arith, ltb-false)

  pub old : refusal_of k d s ≡ 16 → every (young d) d.processes ≡ false
  old e = by (every (young d) d.processes) refl
    where
      by : (b : Bool) → every (young d) d.processes ≡ b → every (young d) d.processes ≡ false
      by true h = absurd (not_first 16 (omega arith) (questions k d s) (alone (is k Tick) _ h) e)
      by false h = h
