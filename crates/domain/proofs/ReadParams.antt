-- The parameters that a loop goes by, as the words and the domain have them. Assumes nothing.
use Prim.Native.Nat.{ℕ}
use mathlib.Core.List.{List}
use mathlib.Core.Path.{◌≡◌, ap}
use lib.ListN.{length}
use Rattle.layout.specs.Encode.{decode, decode_by, params_in}
use Rattle.layout.specs.Sound.{Sound}
use Rattle.layout.specs.Values.{params_value}
use Rattle.layout.specs.declared.Params.{Params}

module _ {ws : List ℕ} (s : Sound ws) where
  -- as many processes as the head says
  pub processes-length : length (decode ws).processes ≡ (params_in ws).processes
  unfolding decode_by
  processes-length = s.domain.process_count

  -- the parameters that the code has read
  pub processes-word : {a : Params} → params_value a ≡ (decode ws).params → a.processes ≡ (params_in ws).processes
  unfolding decode_by
  processes-word e = ap (λ b. b.processes) e
