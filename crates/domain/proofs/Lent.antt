-- A process's stretch of a domain's words, as it is lent and as it comes back. Assumes nothing.
use Prim.Native.Nat.{ℕ, ◌+◌, ◌-◌, ◌<◌, ◌≤◌}
use mathlib.Core.List.{List}
use mathlib.Core.Path.{◌≡◌, refl, sym, ◌∙◌, ap}
use native.Mathlib.Omega.{arith}
use lib.ListN.{length, take, drop}
use lib.Dec.{ltb}
use borrow.Rule.Slice.PartMut.{put_mid}
use Rattle.lists.specs.Tests.{every}
use Rattle.lists.proofs.Facts.{all_map}
use Rattle.model.specs.WellFormed.{PendingFits, ProcessFits}
use Rattle.model.specs.State.{Process, Domain, process_of, set_process}
use Rattle.model.proofs.WellFormed.{process-fits}
use Rattle.model.specs.Params.{buffer_size, delay}
use Rattle.model.specs.Hazards.{young}
use Rattle.layout.specs.Shape.{stores_place, process_width, process_start}
use Rattle.stretch.specs.declared.Place.{Place}
use Rattle.domain.specs.Places.{Placed}
use Rattle.lists.proofs.Rows.{below}
use Rattle.layout.specs.Encode.{shape, encode, decode, decode_by, process_words, process_at, params_in}
use Rattle.layout.specs.Sound.{Sound}
use Rattle.layout.proofs.Encode.{process-back}
use Rattle.layout.proofs.Sound.{process-row, process-written}
use Rattle.stretch.specs.Stretch.{Stretch, Stretched}
use Rattle.stretch.proofs.Words.{stretch-of}

-- the place that the code computes
pub placed : {ws : List ℕ} → Sound ws → (p k a w : ℕ) → p < (params_in ws).processes → k ≡ (params_in ws).hazards
    → a ≡ process_start shape (params_in ws).hazards p → w ≡ process_width shape k
    → Placed ws p (record { k = k; from = a; to = a + w; hazards = shape.lead_width; stores = stores_place shape k })
placed {ws} s p k a w l ek ea ew =
    record {
      k = ek;
      from = ea;
      to = ap (λ (n : ℕ). a + n) ew;
      inside = omega (arith, below p (params_in ws).processes (process_width shape (params_in ws).hazards) l, s.sizes.long);
      hazards = refl;
      stores = refl;
    }

module _ {ws : List ℕ} (s : Sound ws) {p : ℕ} (l : p < (params_in ws).processes) {r : Place} (h : Placed ws p r) where
  abbrev k : ℕ
  k = r.k

  abbrev a : ℕ
  a = r.from

  abbrev lent : List ℕ
  lent = take (r.to - r.from) (drop r.from ws)

  x : Process
  x = process_of (decode ws) p

  fits : ProcessFits (decode ws).params (decode ws).clock x
  unfolding x decode_by
  fits = process-fits s.domain p l

  width : length x.hazards ≡ k
  unfolding x decode_by
  width = fits.stores.width ∙ sym h.k

  room : length x.buffer ≤ buffer_size
  unfolding x
  room = fits.stores.room

  start : a ≡ process_start shape k p
  start = rw h.k h.from

  row : lent ≡ process_words x
  unfolding x
  row = process-row s p k a (r.to - r.from) l h.k start (omega (arith, h.to))

  -- what is lent is a stretch, and holds the process
  pub lent-process : process_at k lent ≡ process_of (decode ws) p
  unfolding x
  lent-process = ap (λ (r : List ℕ). process_at k r) row ∙ process-back shape (process_of (decode ws) p) k width room refl

  stretch : Stretch k lent
  unfolding x decode_by
  stretch =
      stretch-of (process_of (decode ws) p) k width _ row room (omega (arith, h.k, s.sizes.hazards))
      (rw h.k (all_map (PendingFits (decode ws).params (decode ws).clock) (λ e. e.hazard < (params_in ws).hazards) (process_of (decode ws) p).buffer
      (λ _ f. f.hazard) fits.stores.buffer))

  pub lent-stretch : Stretched r lent
  lent-stretch = record { hazards = h.hazards; stores = h.stores; words = stretch }

  -- the process that comes back is the domain's
  pub process-returned : (f : Process → Process) (r' : List ℕ) → r' ≡ process_words (f (process_at k lent))
      → put_mid a (r.to - r.from) ws r' ≡ encode (set_process (decode ws) p (f (process_of (decode ws) p)))
  process-returned f r' q =
      ap (λ (y : List ℕ). put_mid a (r.to - r.from) ws y) (q ∙ ap (λ (y : Process). process_words (f y)) lent-process)
      ∙ process-written s p k a (r.to - r.from) l h.k start (omega (arith, h.to)) (f (process_of (decode ws) p))

-- ---- what the code has read of the clock and of the delay

pub young-held : {x y : Process} (d : Domain) {t v : ℕ} → t ≡ d.clock → v ≡ delay d.params → x ≡ y
    → every (λ e. ltb (t - e.time) v) x.buffer ≡ young d y
young-held d et ev e = λ i. every (λ q. ltb (et i - q.time) (ev i)) (e i).buffer
