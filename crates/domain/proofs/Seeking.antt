-- A loop over the processes of a domain that looks for the first one that passes a test. Assumes nothing.
use Prim.Native.Nat.{ℕ, suc, ◌+◌, ◌≤◌}
use mathlib.Core.Bool.{Bool, true, false, not, ◌&&◌, not-not}
use mathlib.Core.List.{List, [], ◌∷◌}
use mathlib.Core.Path.{◌≡◌, refl, ap, ◌∙◌}
use native.Mathlib.Omega.{arith}
use lib.ListN.{length}
use lib.Dec.{ltb, eqb}
use Rattle.std.specs.Option.{is_some}
use Rattle.lists.specs.Tests.{implies, every}
use Rattle.lists.proofs.First.{none_from, first_found, Seeking, seek-starts}
use Rattle.model.specs.State.{Process, Domain, in_epochs}
use Rattle.model.specs.Epochs.{caught_up}
use Rattle.model.specs.Why.{lags, laggard}
use Rattle.layout.specs.Encode.{decode, params_in}
use Rattle.layout.specs.Sound.{Sound}
use Rattle.layout.specs.Values.{params_value}
use Rattle.layout.specs.declared.Params.{Params}
use Rattle.domain.specs.Found.{process_below}
use Rattle.domain.proofs.Found.{some-below}
use Rattle.domain.proofs.ReadParams.{processes-length, processes-word}

-- none of the first p of n processes passes
pub record Looking (f : ℕ → Process → Bool) (ws : List ℕ) (n p : ℕ) : Type 0 where
  pub sound : Sound ws
  pub many : n ≡ (params_in ws).processes
  pub low : p ≤ n
  pub seeking : Seeking f (decode ws).processes p

pub look-starts : {f : ℕ → Process → Bool} {ws : List ℕ} {a : Params} → Sound ws → params_value a ≡ (decode ws).params
    → Looking f ws a.processes 0
look-starts s e = record { sound = s; many = processes-word s e; low = omega arith; seeking = seek-starts }

-- ---- who is behind

keeps-up : (a b : Bool) → not (a && not b) ≡ implies a b
keeps-up true b = not-not b
keeps-up false b = refl

none-lags : (d : Domain) (i : ℕ) (ps : List Process)
    → none_from (λ _ x. lags d x) i ps ≡ every (λ x. implies (in_epochs x) (eqb x.epoch d.epoch)) ps
none-lags d i [] = refl
none-lags d i (x ∷ xs) = λ t. keeps-up (in_epochs x) (eqb x.epoch d.epoch) t && none-lags d (suc i) xs t

-- all have caught up where none lags
pub none-behind : {ws : List ℕ} → Sound ws → not (is_some (process_below (params_in ws).processes (laggard (decode ws)))) ≡ caught_up (decode ws)
none-behind {ws} s =
    let d : Domain = decode ws in
    let many : (params_in ws).processes ≡ 0 + length d.processes = omega (arith, processes-length s) in
    ap not (some-below (λ q. record { 0 = q }) (params_in ws).processes (laggard d) ∙ ap (ltb (laggard d)) many)
    ∙ ap not (first_found (λ _ x. lags d x) 0 d.processes)
    ∙ not-not (none_from (λ _ x. lags d x) 0 d.processes)
    ∙ none-lags d 0 d.processes
