-- Words after a call, as those of a domain: what the next call asks for. Assumes nothing.
use Prim.Native.Nat.{ℕ, ◌<◌}
use mathlib.Core.List.{List}
use mathlib.Core.Path.{◌≡◌, ◌∙◌, ap}
use Rattle.model.specs.WellFormed.{WellFormed}
use Rattle.model.specs.State.{Domain}
use Rattle.model.specs.Retire.{Effect}
use Rattle.layout.specs.Encode.{encode, decode, encode_by, params_in}
use Rattle.layout.proofs.Sound.{decoded}
use Rattle.domain.specs.Effects.{Does}

module _ {ws : List ℕ} (d : Domain) (e : ws ≡ encode d) where
  pub process_count_lem : (params_in ws).processes ≡ d.params.processes
  unfolding encode_by
  process_count_lem = ap (λ (r : List ℕ). (params_in r).processes) e

  -- a process of the words before is one of those after
  pub still-below : {p n : ℕ} → p < n → n ≡ d.params.processes → p < (params_in ws).processes
  still-below h q = rw (process_count_lem, ← q) h

  -- what a call does to them, it does to the domain
  pub does-after : WellFormed d → (f : Domain → Effect) (ws' : List ℕ) (v : ℕ) → Does (f (decode ws)) ws' v → Does (f d) ws' v
  does-after w f ws' v h =
      (h.0 ∙ ap (λ (x : Domain). encode (f x).after) (decoded e w), h.1 ∙ ap (λ (x : Domain). (f x).value) (decoded e w))
