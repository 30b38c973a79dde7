-- A loop over the processes of a domain that keeps whether all so far pass a test. Assumes nothing.
use Prim.Native.Nat.{ℕ, ◌+◌, ◌<◌, ◌≤◌}
use mathlib.Core.Bool.{Bool, true, false, ◌&&◌, false≢true}
use mathlib.Core.List.{List}
use mathlib.Core.Path.{◌≡◌, refl, sym, ◌∙◌}
use native.Mathlib.Omega.{arith}
use Rattle.lists.specs.Tests.{every}
use Rattle.lists.proofs.Facts.{every_in}
use Rattle.lists.proofs.Tested.{Tested, tested-none, tested-more, tested-all}
use Rattle.model.specs.State.{Process, no_process, process_of}
use Rattle.layout.specs.Encode.{decode, params_in}
use Rattle.layout.specs.Sound.{Sound}
use Rattle.layout.specs.Values.{params_value}
use Rattle.layout.specs.declared.Params.{Params}
use Rattle.domain.proofs.ReadParams.{processes-length, processes-word}

-- the first p of n processes are tested, and ok says whether all of those pass
pub record Passing (f : Process → Bool) (ws : List ℕ) (n p : ℕ) (ok : Bool) : Type 0 where
  pub sound : Sound ws
  pub many : n ≡ (params_in ws).processes
  pub low : p ≤ n
  pub tested : Tested f (decode ws).processes p ok

pub starts : {f : Process → Bool} {ws : List ℕ} {a : Params} → Sound ws → params_value a ≡ (decode ws).params
    → Passing f ws a.processes 0 true
starts s e =
    record {
      sound = s;
      many = processes-word s e;
      low = omega arith;
      tested = tested-none;
    }

module _ {f : Process → Bool} {ws : List ℕ} {n p : ℕ} {ok : Bool} (h : Passing f ws n p ok) where
  pub turn : {q : Bool} → p < n → q ≡ f (process_of (decode ws) p) → Passing f ws n (p + 1) (ok && q)
  turn l e =
      record {
        sound = h.sound;
        many = h.many;
        low = omega arith;
        tested = tested-more no_process h.tested (omega (arith, processes-length h.sound)) e;
      }

  -- a process that does not pass
  pub fails : p < n → f (process_of (decode ws) p) ≡ false → false ≡ every f (decode ws).processes
  fails l e = by (every f (decode ws).processes) refl
    where
      by : (b : Bool) → every f (decode ws).processes ≡ b → false ≡ b
      by false q = refl
      by true q =
          absurd (false≢true (sym e ∙ every_in f (decode ws).processes p no_process q (omega (arith, processes-length h.sound, h.many))))

  pub ends : n ≤ p → ok ≡ every f (decode ws).processes
  ends l = tested-all h.tested (omega (arith, processes-length h.sound))
