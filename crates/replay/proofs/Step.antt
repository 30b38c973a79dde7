-- One step on sound words: what it answers and leaves is what the rules say, the reachable count goes with it, and its line follows what
-- was put before it. Assumes nothing.
use Prim.Native.Nat.{ℕ, ◌+◌, ◌≤◌, ◌<◌}
use mathlib.Core.Bool.{Bool, true, false, ◌&&◌, cond}
use mathlib.Core.List.{List, ◌++◌}
use mathlib.Core.Path.{◌≡◌, refl, ap, ◌∙◌, subst}
use native.Mathlib.Omega.{arith}
use lib.ListN.{length, take}
use lib.Dec.{eqb}
use borrow.Author.Tests.{eqb-true}
use Rattle.std.specs.Prelude.{Result}
use Rattle.refusals.specs.declared.Refusal.{Refusal}
use Rattle.refusals.specs.Numbers.{refusal_in, value_in}
use Rattle.lists.proofs.Counts.{count_most}
use Rattle.model.specs.State.{Node, Step, Reachable}
use Rattle.model.specs.Machine.{step}
use Rattle.model.specs.Claims.{raises, lowers, accepted_as, reachable_count}
use Rattle.model.proofs.Theorems.{step-well-formed, panel-step}
use Rattle.layout.specs.Encode.{decode}
use Rattle.layout.specs.Sound.{Sound}
use Rattle.layout.proofs.Sound.{decoded}
use Rattle.text.specs.Text.{Put, step_text, step_text_size}
use Rattle.text.proofs.Digits.{put-take}
use Rattle.steps.specs.Stepped.{Stepped}
use Rattle.replay.specs.Turn.{count_after, Counted, Taken}
use Rattle.replay.proofs.Sizes.{refusal-low, step_size_lem}

-- ---- the reachable count

-- a step does not both lower and raise it
apart : (k n m : ℕ) (a b : Bool) → lowers k ≡ b → m + cond (a && b) 1 0 ≡ n + cond (a && raises k) 1 0 → cond (a && b) 1 0 ≤ n
apart k n m false b e h = omega arith
apart k n m true false e h = omega arith
apart k n m true true e h =
    let other : raises k ≡ false = ap raises (eqb-true k 7 e) in
    let one : m + 1 ≡ n + 0 = h ∙ ap (λ (x : Bool). n + cond x 1 0) other in
    omega arith

-- there are at most 256 nodes
pub few : (ws : List ℕ) (n : ℕ) → Counted ws n → n ≤ 256
few ws n (sound, e) =
    let many = count_most (λ (x : Node). eqb x.state Reachable) (decode ws).nodes in
    omega (arith, e, many, sound.domain.node_count, sound.domain.params.nodes.1)

-- the domain after the step is the rules'
pub after_is : (ws : List ℕ) → Sound ws → (s : Step) (a : Result ℕ Refusal) (ws' : List ℕ) → Stepped (step (decode ws) s) a ws'
    → decode ws' ≡ (step (decode ws) s).after
after_is ws sound s a ws' h = decoded h.words (step-well-formed (decode ws) s sound.domain)

module _ (ws : List ℕ) (n : ℕ) (c : Counted ws n) (s : Step) (a : Result ℕ Refusal) (ws' : List ℕ) (h : Stepped (step (decode ws) s) a ws') where
  law : reachable_count (step (decode ws) s).after + accepted_as lowers s.kind (refusal_in a) ≡ n + accepted_as raises s.kind (refusal_in a)
  law = rw (h.refusal, c.1) (panel-step (decode ws) s c.0.domain)

  -- a remove is accepted only where a node is Reachable
  pub lowered : accepted_as lowers s.kind (refusal_in a) ≤ n
  lowered = apart s.kind n _ (eqb (refusal_in a) 0) (lowers s.kind) refl law

  after : decode ws' ≡ (step (decode ws) s).after
  after = after_is ws c.0 s a ws' h

  module _ (m : ℕ) (e : m ≡ count_after n s.kind (refusal_in a)) where
    panel-is : m ≡ reachable_count (step (decode ws) s).after
    panel-is = omega (arith, e, law)

    counted-after : Counted ws' m
    counted-after = (h.sound, omega (arith, panel-is, ap reachable_count after))

    -- r and v are what the line says of the answer
    module _ (r v : ℕ) (f : (r ≡ refusal_in a) × (v ≡ value_in a)) where
      -- the line of the step, the i-th, is as short as the print counts on
      pub line-size : (i : ℕ) → i < 5458 → s.kind < 256 → step_text_size i s.kind r v m ≤ 27
      line-size i p q =
          step_size_lem i s.kind r v m p q (omega (arith, f.0, h.refusal, refusal-low (decode ws) s)) (few ws' m counted-after)

      pub taken : (i at : ℕ) (out out' : List ℕ) (at' : ℕ) → i < 5458 → s.kind < 256 → at + 27 ≤ length out
          → Put out at (step_text i s.kind r v m) (step_text_size i s.kind r v m) out' at'
          → Taken s i at ws out ws' out' (record { at = at'; reachable = m })
      taken i at out out' at' p q l x =
          let short = line-size i p q in
          let line = put-take out at _ _ out' at' x (omega arith) in
          let refusal = f.0 ∙ h.refusal in
          let value = f.1 ∙ h.value in
          record {
            counted = counted-after;
            domain = after;
            text = line ∙ (λ t. take at out ++ step_text i s.kind (refusal t) (value t) (panel-is t));
            room = omega (arith, x.ends);
          }

-- the same of a step that equals the one taken
pub taken_at : (ws : List ℕ) (n : ℕ) → Counted ws n → (s s' : Step) → s ≡ s' → (a : Result ℕ Refusal) (ws' : List ℕ)
    → Stepped (step (decode ws) s) a ws' → (m : ℕ) → m ≡ count_after n s.kind (refusal_in a) → (r v : ℕ) → (r ≡ refusal_in a) × (v ≡ value_in a)
    → (i at : ℕ) (out out' : List ℕ) (at' : ℕ) → i < 5458 → s.kind < 256 → at + 27 ≤ length out
    → Put out at (step_text i s.kind r v m) (step_text_size i s.kind r v m) out' at'
    → Taken s' i at ws out ws' out' (record { at = at'; reachable = m })
taken_at ws n c s s' e a ws' h m k r v f i at out out' at' p q l x =
    subst (λ (y : Step). Taken y i at ws out ws' out' (record { at = at'; reachable = m })) e
    (taken ws n c s a ws' h m k r v f i at out out' at' p q l x)
