-- A refused step changes nothing, and a step depends only on the fields that its row reads. Assumes nothing.
use Prim.Native.Nat.{ℕ}
use mathlib.Core.Bool.{Bool, true, false, cond}
use mathlib.Core.Path.{◌≡◌, refl, sym, ◌∙◌, ap}
use mathlib.Core.Logic.{◌≢◌}
use Rattle.model.specs.State.{Domain, Step}
use Rattle.model.specs.Kinds.{Kind, kind_of, row_of, Allocate, Publish, Protect, Check, Use, Clear, Remove}
use Rattle.model.specs.Kinds.{Retire, Drain, Flush, Tick, Manage, ClearPresence, Reinsert, Leave, Join, Portion}
use Rattle.model.specs.Kinds.{Unknown}
use Rattle.model.specs.Machine.{step, step_as}
use Rattle.model.specs.Claims.{RefusedUnchanged, UnreadFields, SameRead, reads}
use Rattle.model.proofs.Walk.{by-step}

pub refused-unchanged : RefusedUnchanged
unfolding step
refused-unchanged d s =
    by-step (kind_of s.kind) d s (λ o. o.refusal ≢ 0 → (o.value ≡ 0) × (o.after ≡ d))
    (λ _ _ _. (refl, refl)) (λ _ no'. absurd (no' refl))

-- ---- A step with every unread field 0

abbrev only : Bool → ℕ → ℕ
only b n = cond b n 0

abbrev trim : Kind → Step → Step
trim k s =
    record {
      kind = 0;
      process = only (reads (row_of k).process) s.process;
      hazard = only (reads (row_of k).hazard) s.hazard;
      node = only (reads (row_of k).node) s.node;
      guest = only (reads (row_of k).guest) s.guest;
    }

trim-as : (k : Kind) (d : Domain) (s : Step) → step_as k d (trim k s) ≡ step_as k d s
trim-as Allocate d s = refl
trim-as Publish d s = refl
trim-as Protect d s = refl
trim-as Check d s = refl
trim-as Use d s = refl
trim-as Clear d s = refl
trim-as Remove d s = refl
trim-as Retire d s = refl
trim-as Drain d s = refl
trim-as Flush d s = refl
trim-as Tick d s = refl
trim-as Manage d s = refl
trim-as ClearPresence d s = refl
trim-as Reinsert d s = refl
trim-as Leave d s = refl
trim-as Join d s = refl
trim-as Portion d s = refl
trim-as Unknown d s = refl

-- where a field is read only equal fields will do, and elsewhere any
only_same : (b : Bool) (m n : ℕ) → (b ≡ true → m ≡ n) → only b m ≡ only b n
only_same true m n h = h refl
only_same false m n h = refl

trim_same : (s t : Step) → SameRead s t → trim (kind_of s.kind) s ≡ trim (kind_of s.kind) t
trim_same s t r =
    let process = only_same _ _ _ r.process in
    let hazard = only_same _ _ _ r.hazard in
    let node = only_same _ _ _ r.node in
    let guest = only_same _ _ _ r.guest in
    λ i. record { kind = 0; process = process i; hazard = hazard i; node = node i; guest = guest i }

pub unread-fields : UnreadFields
unfolding step
unread-fields d s t r =
    let k = kind_of s.kind in
    sym (trim-as k d s) ∙ ap (step_as k d) (trim_same s t r) ∙ trim-as k d t ∙ ap (λ j. step_as j d t) r.kind
