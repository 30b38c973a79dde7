-- A process that fits, as the code looks at it: each word at most a limit that goes by its place. Assumes nothing.
use Rattle.std.specs.Prelude.{ℕ, ◌+◌, ◌-◌, ◌*◌, ◌%◌, ◌≤◌, Bool, cond, not, ◌&&◌, List, drop, nat_le, nat_lt}
use Rattle.lists.specs.Upto.{all_upto}
use Rattle.model.specs.Params.{buffer_size, hazard_width, store_width}
use Rattle.model.specs.State.{last_epoch}
use Rattle.layout.specs.Shape.{word, stores_place}
use Rattle.layout.specs.Encode.{shape, params_in}
use Rattle.layout.specs.Sound.{Sizes}
use Rattle.limits.specs.Limits.{within}
use Rattle.wellformed.specs.declared.processes.Limits.{Limits}
use Rattle.wellformed.specs.declared.processes.Cuts.{Cuts}

-- the limit of a word of place e of a buffer, by the top bit of e - stores in 32 bits: with at most 8 stores, 0 past them
unfoldable pub cut_at : ℕ → ℕ → ℕ → ℕ
cut_at limit e stores = cond (nat_lt ((e + (4294967296 - stores)) % 4294967296) 2147483648) 0 limit

abbrev pub cuts_at : Limits → ℕ → ℕ → Cuts
cuts_at l e stores =
    record { hazard = cut_at l.hazard e stores; node = cut_at l.nodes e stores; time = cut_at l.clock e stores }

-- place e of a buffer, which stands at place a: hazard, node, time
abbrev pub store_within : Limits → ℕ → List ℕ → ℕ → ℕ → Bool
store_within l stores ws a e =
    nat_le (word ws a) (cut_at l.hazard e stores)
    && (nat_le (word ws (a + 1)) (cut_at l.nodes e stores)
    && nat_le (word ws (a + 2)) (cut_at l.clock e stores))

-- so many places, from place e on; half of them; all
abbrev pub places_within : Limits → ℕ → List ℕ → ℕ → ℕ → ℕ → Bool
places_within l stores ws a e count = all_upto (λ j. store_within l stores ws (a + store_width * j) (e + j)) count

abbrev pub half_size : ℕ
half_size = 4

abbrev pub half_width : ℕ
half_width = store_width * half_size

abbrev pub half_within : Limits → ℕ → List ℕ → ℕ → ℕ → Bool
half_within l stores ws a e = places_within l stores ws a e half_size

abbrev pub stores_within : Limits → ℕ → List ℕ → ℕ → Bool
stores_within l stores ws a = places_within l stores ws a 0 buffer_size

-- a hazard and the word before it, which says whether the process is present or whether another hazard is validated; validated is at most
-- assigned
abbrev pub hazard_within : ℕ → List ℕ → ℕ → Bool
hazard_within m ws before =
    not (nat_lt (word ws (before + 2)) (word ws (before + 3))) && within ws before 1 m m 1

unfoldable pub hazards_within : ℕ → List ℕ → ℕ → ℕ → Bool
hazards_within m ws before k = all_upto (λ h. hazard_within m ws (before + hazard_width * h)) k

-- epoch, calls, presence, stores; present, the word after them, is looked at with the first hazard
abbrev pub lead_within : ℕ → List ℕ → ℕ → Bool
lead_within calls ws a = within ws a last_epoch calls 1 buffer_size

-- a process at place a, with k hazards
unfoldable pub process_within : Limits → ℕ → List ℕ → ℕ → Bool
process_within l k ws a =
    lead_within l.calls ws a
    && (hazards_within l.nodes ws (a + shape.lead_width - 1) k
    && stores_within l (shape.lead.get (drop a ws)).stores ws (a + stores_place shape k))

-- the numbers that the check of the processes goes by
pub record Ready (ws : List ℕ) : Type 0 where
  pub sizes : Sizes ws
  pub quiescence : 1 ≤ (params_in ws).quiescence_threshold
