-- A loop over the processes of a domain that clears their presence words. Assumes nothing.
use Prim.Native.Nat.{ℕ, ◌+◌, ◌<◌, ◌≤◌}
use mathlib.Core.List.{List}
use mathlib.Core.Path.{◌≡◌, refl, sym, ap, ◌∙◌}
use native.Mathlib.Omega.{arith}
use native.Mathlib.Numerals.{add-one}
use lib.ListN.{length}
use Rattle.lists.proofs.Mapped.{mapped_to, mapped-turn, mapped-all}
use Rattle.model.specs.State.{Process, Domain, no_process, process_of, with_processes, set_process, with_words}
use Rattle.model.specs.State.{without_presence}
use Rattle.model.specs.State.{clear_presence}
use Rattle.model.specs.WellFormed.{WellFormed}
use Rattle.model.proofs.WellFormed.{process-fits, fits-words, keep-process}
use Rattle.layout.specs.Shape.{lead_of}
use Rattle.layout.specs.Encode.{encode, decode, decode_by, params_in}
use Rattle.layout.specs.Sound.{Sound}
use Rattle.layout.specs.Values.{params_value, lead_value}
use Rattle.layout.specs.declared.Params.{Params}
use Rattle.layout.specs.declared.Lead.{Lead}
use Rattle.layout.proofs.Sound.{decoded, sound-at}
use Rattle.domain.proofs.ReadParams.{processes-length, processes-word}

-- d with the presence words of the first p processes 0
abbrev cleared_to : Domain → ℕ → Domain
cleared_to d p = with_processes d (mapped_to without_presence p d.processes)

-- the words ws₀ are ws now: of the first p of n processes the presence words are 0
pub record Clearing (ws₀ ws : List ℕ) (n p : ℕ) : Type 0 where
  pub sound : Sound ws
  pub many : n ≡ (params_in ws).processes
  pub low : p ≤ n
  pub long : length ws ≡ length ws₀
  pub whole : length (decode ws₀).processes ≡ n
  pub domain : decode ws ≡ cleared_to (decode ws₀) p

pub starts : {ws : List ℕ} {a : Params} → Sound ws → params_value a ≡ (decode ws).params → Clearing ws ws a.processes 0
starts s e =
    record {
      sound = s;
      many = processes-word s e;
      low = omega arith;
      long = refl;
      whole = processes-length s ∙ sym (processes-word s e);
      domain = refl;
    }

module _ {ws₀ ws : List ℕ} {n p : ℕ} (h : Clearing ws₀ ws n p) where
  module _ {ws' : List ℕ} {a : Lead} (l : p < n) (k : length ws' ≡ length ws) (e : lead_value a ≡ lead_of (process_of (decode ws) p))
      (u : ws' ≡ encode (set_process (decode ws) p (with_words (process_of (decode ws) p) a.epoch a.calls 0))) where
    inside : p < (decode ws).params.processes
    unfolding decode_by
    inside = omega (arith, h.many)

    written : ws' ≡ encode (set_process (decode ws) p (without_presence (process_of (decode ws) p)))
    written = u ∙ (λ t. encode (set_process (decode ws) p (with_words (process_of (decode ws) p) (e t).epoch (e t).calls 0)))

    fits : WellFormed (set_process (decode ws) p (without_presence (process_of (decode ws) p)))
    fits =
        let f = process-fits h.sound.domain p inside in
        keep-process h.sound.domain p _ (fits-words f _ _ 0 f.words.epoch f.words.calls (omega arith))

    domain-more : decode ws' ≡ cleared_to (decode ws₀) (p + 1)
    domain-more =
        decoded written fits
        ∙ (ap (λ (d : Domain). set_process d p (without_presence (process_of d p))) h.domain
        ∙ rw add-one (ap (λ (ps : List Process). with_processes (decode ws₀) ps) (mapped-turn without_presence (decode ws₀).processes p no_process (rw h.whole l))))

    pub turn : Clearing ws₀ ws' n (p + 1)
    unfolding decode_by
    turn =
        record {
          sound = sound-at written fits;
          many = h.many ∙ sym (ap (λ (d : Domain). d.params.processes) (decoded written fits));
          low = omega arith;
          long = k ∙ h.long;
          whole = h.whole;
          domain = domain-more;
        }

  pub ends : n ≤ p → ws ≡ encode (clear_presence (decode ws₀))
  ends l =
      h.sound.whole ∙ ap encode (h.domain ∙ ap (λ (ps : List Process). with_processes (decode ws₀) ps) (mapped-all without_presence (decode ws₀).processes p (rw h.whole l)))
