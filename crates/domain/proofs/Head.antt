-- The head's words written. Assumes nothing.
use Prim.Native.Nat.{ℕ}
use mathlib.Core.List.{List}
use mathlib.Core.Path.{◌≡◌, ap}
use lib.ListN.{set}
use Rattle.model.specs.State.{with_clock, with_path, with_epoch}
use Rattle.layout.specs.Codecs.{clock_word, path_word, epoch_word}
use Rattle.layout.specs.Encode.{encode, decode, encode_by}
use Rattle.layout.specs.Sound.{Sound}

module _ {ws : List ℕ} (s : Sound ws) (v : ℕ) where
  pub clock-written : set ws clock_word v ≡ encode (with_clock (decode ws) v)
  unfolding encode_by
  clock-written = ap (λ (r : List ℕ). set r clock_word v) s.whole

  pub path-written : set ws path_word v ≡ encode (with_path (decode ws) v)
  unfolding encode_by
  path-written = ap (λ (r : List ℕ). set r path_word v) s.whole

  pub epoch-written : set ws epoch_word v ≡ encode (with_epoch (decode ws) v)
  unfolding encode_by
  epoch-written = ap (λ (r : List ℕ). set r epoch_word v) s.whole
