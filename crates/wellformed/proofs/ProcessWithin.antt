-- A process within its limits is one that fits. Assumes nothing.
use Rattle.std.proofs.Common.{◌≡◌, ℕ, zero, suc, ◌+◌, ◌-◌, ◌*◌, ◌/◌, ◌%◌, ◌<◌, ◌≤◌, Bool, true, false, cond, not, ◌&&◌, eqb, ltb, leb, List, length, drop, sym, refl, ap, ◌∙◌, add-zero, add_assoc, mul-le-mul_right, arith, ltb-false, ltb-true, le-ltb, lt-ltb, le-leb, leb-true}
use mathlib.Core.Bool.{and_assoc, and-false, false≢true}
use lib.Bits.{bit_and, and_zero_r, and_mask}
use lib.Dec.{eqb-suc-zero}
use borrow.Author.Tests.{lt-leb}
use Rattle.lists.specs.Tests.{implies}
use Rattle.lists.specs.Upto.{all_upto}
use Rattle.lists.proofs.Bools.{both}
use Rattle.lists.proofs.Upto.{also-none, also-more, all-ext, all_more, all-at, all-follow}
use Rattle.lists.proofs.UptoParts.{all_join}
use Rattle.model.specs.Params.{Params, Between, most_hazards, buffer_size, hazard_width, store_width}
use Rattle.layout.specs.Shape.{Lead, word, hazard_place, stores_place, store_place, process_width, process_start}
use Rattle.layout.specs.Encode.{shape, params_in}
use Rattle.layout.specs.Words.{lead_fits, hazard_fits, store_fits, process_fits_by}
use Rattle.layout.proofs.Places.{lead_from, lead_from_lem}
use Rattle.layout.specs.Codecs.{present_word}
use Rattle.layout.proofs.Fits.{hazard-facts}
use Rattle.limits.specs.Limits.{within, any_word}
use Rattle.limits.proofs.Tests.{below, only_zero}
use Rattle.wellformed.specs.declared.processes.Limits.{Limits}
use Rattle.wellformed.specs.declared.processes.Cuts.{Cuts}
use Rattle.wellformed.specs.ProcessLimits.{cut_at, cuts_at, store_within, half_size, half_width, half_within}
use Rattle.wellformed.specs.ProcessLimits.{stores_within}
use Rattle.wellformed.specs.ProcessLimits.{hazard_within, hazards_within, lead_within, process_within, Ready}

-- ---- what the looks at the words leave

-- the mask by the top bit of d is 0 or has every bit set
abbrev mask : ℕ → ℕ
mask d = (0 + (4294967296 - d / 2147483648)) % 4294967296

pub cut-is : (limit e stores : ℕ) → limit ≤ any_word → bit_and limit (mask ((e + (4294967296 - stores)) % 4294967296)) ≡ cut_at limit e stores
unfolding cut_at
cut-is limit e stores h =
    go ((e + (4294967296 - stores)) % 4294967296) (omega arith) (ltb ((e + (4294967296 - stores)) % 4294967296) 2147483648) refl
  where
    go : (d : ℕ) → d < 4294967296 → (b : Bool) → ltb d 2147483648 ≡ b → bit_and limit (mask d) ≡ cond b 0 limit
    go d l true e = let z : mask d ≡ 0 = omega (arith, ltb-true) in rw z (and_zero_r limit)
    go d l false e =
        let z : mask d ≡ 4294967295 = omega (arith, ltb-false) in
        let small : limit % 4294967296 ≡ limit = omega arith in rw z (and_mask limit 32 ∙ small)

module _ (l : Limits) (stores : ℕ) (ws : List ℕ) (at : ℕ) where
  -- three pieces are four places
  pub half-none : (e : ℕ) (a b c d : Cuts) (v x y z : Bool) → a ≡ cuts_at l e stores → b ≡ cuts_at l (e + 1) stores
      → c ≡ cuts_at l (e + 2) stores → d ≡ cuts_at l (e + 3) stores
      → x ≡ (v && within ws at a.hazard a.node a.time b.hazard)
      → y ≡ (x && within ws (at + 4) b.node b.time c.hazard c.node)
      → z ≡ (y && within ws (at + 8) c.time d.hazard d.node d.time) → z ≡ (v && half_within l stores ws at e)
  unfolding within all_upto
  half-none e a b c d v x y z ea eb ec ed hx hy hz =
      rw (hz, hy, hx, ea, eb, ec, ed) (simp (and_assoc, add_assoc, add-zero))

  -- and eight are four and four
  pub buffer-none : (x y z : Bool) → y ≡ (x && half_within l stores ws at 0)
      → z ≡ (y && half_within l stores ws (at + half_width) half_size) → z ≡ (x && stores_within l stores ws at)
  buffer-none x y z hy hz =
      let f : ℕ → Bool = λ j. store_within l stores ws (at + store_width * j) (0 + j) in
      let more = all-ext (λ j. store_within l stores ws (at + half_width + store_width * j) (half_size + j)) (λ j. f (half_size + j)) half_size
      (λ j _. let e : at + half_width + store_width * j ≡ at + store_width * (half_size + j) = omega arith in
      let q : half_size + j ≡ 0 + (half_size + j) = omega arith in λ t. store_within l stores ws (e t) (q t)) in
      rw (hz, hy) (and_assoc x _ _)
      ∙ ap (λ (b : Bool). x && b) (ap (λ (b : Bool). half_within l stores ws at 0 && b) more ∙ sym (all_join f half_size half_size))

module _ (ws : List ℕ) (m before : ℕ) where
  pub hazards-start : (x : Bool) → x ≡ (x && hazards_within m ws before 0)
  unfolding hazards_within
  hazards-start x = also-none _ x

  pub hazards-turn : (h : ℕ) (x y z : Bool) → y ≡ (x && hazards_within m ws before h)
      → z ≡ (y && hazard_within m ws (before + hazard_width * h)) → z ≡ (x && hazards_within m ws before (h + 1))
  unfolding hazards_within
  hazards-turn h x y z = also-more (λ i. hazard_within m ws (before + hazard_width * i)) h x y z

pub process-none : (l : Limits) (k : ℕ) (ws : List ℕ) (a from s : ℕ) (v x y z : Bool) → from ≡ a + shape.lead_width → s ≡ word ws (a + 3)
    → x ≡ (v && lead_within l.calls ws a) → y ≡ (x && hazards_within l.nodes ws (from - 1) k)
    → z ≡ (y && stores_within l s ws (from + hazard_width * k)) → z ≡ (v && process_within l k ws a)
unfolding process_within
process-none l k ws a from s v x y z ef es hx hy hz =
    let stored : word ws (a + 3) ≡ (shape.lead.get (drop a ws)).stores = ap (λ (r : Lead). r.stores) (sym (lead_from_lem ws a)) in
    rw (hz, hy, hx, ef, es, stored, add_assoc a shape.lead_width (hazard_width * k)) (simp and_assoc)

-- ---- the lead by its limits, and by the paper's clauses

-- its first four words; the last is looked at with the first hazard
abbrev four_fit : ℕ → Lead → Bool
four_fit q l = leb l.epoch 2 && (ltb l.calls q && (leb l.presence 1 && leb l.stores buffer_size))

four_fit_lem : (ws : List ℕ) (a q : ℕ) → 1 ≤ q → lead_within (q - 1) ws a ≡ four_fit q (shape.lead.get (drop a ws))
unfolding within
four_fit_lem ws a q l =
    let by_place : lead_within (q - 1) ws a ≡ four_fit q (lead_from ws a) = rw (below (word ws (a + 1)) q l, add-zero a) in
    by_place ∙ ap (four_fit q) (sym (lead_from_lem ws a))

lead-split : (q : ℕ) (l : Lead) → lead_fits q l ≡ (four_fit q l && leb l.present 1)
unfolding lead_fits
lead-split q l = simp and_assoc

four-stores : (q : ℕ) (l : Lead) → four_fit q l ≡ true → l.stores ≤ buffer_size
four-stores q l e =
    let e₀ = both (leb l.epoch 2) _ e in
    let e₁ = both (ltb l.calls q) _ e₀.1 in
    leb-true _ _ (both (leb l.presence 1) _ e₁.1).1

-- ---- a buffer, of at most eight stores

cut-cases : (limit e stores : ℕ) → e < buffer_size → stores ≤ buffer_size → cut_at limit e stores ≡ cond (ltb e stores) limit 0
unfolding cut_at
cut-cases limit e stores he hs = go (ltb e stores) refl
  where
    top : ℕ
    top = (e + (4294967296 - stores)) % 4294967296

    go : (b : Bool) → ltb e stores ≡ b → cond (ltb top 2147483648) 0 limit ≡ cond b limit 0
    go true h =
        let i : e < stores = ltb-true e stores h in
        let z : 2147483648 ≤ (e + (4294967296 - stores)) % 4294967296 = omega arith in rw (le-ltb top 2147483648 z)
    go false h =
        let i : stores ≤ e = ltb-false e stores h in
        let z : (e + (4294967296 - stores)) % 4294967296 < 2147483648 = omega arith in rw (lt-ltb top 2147483648 z)

module _ (l : Limits) (stores k : ℕ) (ws : List ℕ) (some' : 1 ≤ k) (ek : l.hazard ≡ k - 1) (few : stores ≤ buffer_size) where
  store_fits_lem : (a e : ℕ) → e < buffer_size → store_within l stores ws a e ≡ store_fits stores k l.nodes l.clock ws a e
  unfolding store_fits
  store_fits_lem a e h =
      rw (
        cut-cases l.hazard e stores h few,
        cut-cases l.nodes e stores h few,
        cut-cases l.clock e stores h few,
        ek,
      )
      (go (ltb e stores))
    where
      go : (b : Bool)
          → (leb (word ws a) (cond b (k - 1) 0) && (leb (word ws (a + 1)) (cond b l.nodes 0) && leb (word ws (a + 2)) (cond b l.clock 0)))
          ≡ cond b
          (ltb (word ws a) k && (leb (word ws (a + 1)) l.nodes && leb (word ws (a + 2)) l.clock))
          (eqb (word ws a) 0 && (eqb (word ws (a + 1)) 0 && eqb (word ws (a + 2)) 0))
      go true = rw (below (word ws a) k some')
      go false = simp only_zero

-- ---- hazards, after a word that is at most 1

backed : (d s : ℕ) → (not (ltb s d) && leb d 1) ≡ (leb d 1 && implies (eqb d 1) (not (eqb s 0)))
backed zero s = rw (le-ltb s 0 (omega arith))
backed (suc zero) zero = refl
backed (suc zero) (suc s) = rw (le-ltb (suc s) 1 (omega arith), eqb-suc-zero s)
backed (suc (suc d)) s = rw (lt-leb (suc (suc d)) 1 (omega arith)) (and-false (not (ltb s (suc (suc d)))))

spread : (n v s d i : Bool) → (n && d) ≡ (d && i) → (n && (v && (s && d))) ≡ (v && (s && (d && i)))
spread n true true d i h = h
spread n true false d i h = and-false n
spread n false s d i h = and-false n

module _ (ws : List ℕ) (m : ℕ) where
  hazard_fits_lem : (b : ℕ) → word ws b ≤ 1 → hazard_within m ws b ≡ hazard_fits m ws (b + 1)
  unfolding within hazard_fits
  hazard_fits_lem b h =
      rw (le-leb (word ws b) 1 h, add_assoc b 1 1, add_assoc b 1 2)
      (spread
      (not (ltb (word ws (b + 2)) (word ws (b + 3))))
      (leb (word ws (b + 1)) m)
      (leb (word ws (b + 2)) m)
      (leb (word ws (b + 3)) 1)
      (implies (eqb (word ws (b + 3)) 1) (not (eqb (word ws (b + 2)) 0)))
      (backed (word ws (b + 3)) (word ws (b + 2))))

  -- the word before a hazard is the last of the one before it
  hazards-follow : (p : Params) → p.nodes ≡ m → (b k : ℕ) → word ws b ≤ 1
      → hazards_within m ws b k ≡ all_upto (λ h. hazard_fits m ws (b + 1 + hazard_width * h)) k
  unfolding hazards_within
  hazards-follow p em b k h = all-follow within' fits k (λ i l e. hazard_fits_lem (b + hazard_width * i) (before i e) ∙ moved i)
    where
      within' : ℕ → Bool
      within' i = hazard_within m ws (b + hazard_width * i)

      fits : ℕ → Bool
      fits i = hazard_fits m ws (b + 1 + hazard_width * i)

      moved : (i : ℕ) → hazard_fits m ws (b + hazard_width * i + 1) ≡ fits i
      moved i = let e : b + hazard_width * i + 1 ≡ b + 1 + hazard_width * i = omega arith in ap (hazard_fits m ws) e

      before : (i : ℕ) → all_upto fits i ≡ true → word ws (b + hazard_width * i) ≤ 1
      before zero e = rw add-zero h
      before (suc i) e =
          let fit : hazard_fits p.nodes ws (b + 1 + hazard_width * i) ≡ true = rw em (all-at fits (suc i) i e (omega arith)) in
          let last = (hazard-facts p ws (b + 1 + hazard_width * i) fit).validated in
          let q : b + 1 + hazard_width * i + 2 ≡ b + hazard_width * suc i = omega arith in
          rw q at last

  -- so that with the first hazard that word is looked at too
  first_word : (b k : ℕ) → 1 ≤ k → hazards_within m ws b k ≡ true → leb (word ws b) 1 ≡ true
  unfolding hazards_within within
  first_word b k some' e =
      let first : hazard_within m ws b ≡ true = rw add-zero at (all-at (λ h. hazard_within m ws (b + hazard_width * h)) k 0 e some') in
      (both (leb (word ws b) 1) _ (both (not (ltb (word ws (b + 2)) (word ws (b + 3)))) _ first).1).0

  hazards_fit_lem : (p : Params) → p.nodes ≡ m → (b k : ℕ) → 1 ≤ k
      → hazards_within m ws b k ≡ (leb (word ws b) 1 && all_upto (λ h. hazard_fits m ws (b + 1 + hazard_width * h)) k)
  hazards_fit_lem p em b k some' = by (leb (word ws b) 1) refl (hazards_within m ws b k) refl
    where
      by : (x : Bool) → leb (word ws b) 1 ≡ x → (y : Bool) → hazards_within m ws b k ≡ y
          → hazards_within m ws b k ≡ (x && all_upto (λ h. hazard_fits m ws (b + 1 + hazard_width * h)) k)
      by true e y f = hazards-follow p em b k (leb-true _ _ e)
      by false e true f = absurd (false≢true (sym e ∙ first_word b k some' f))
      by false e false f = f

-- ---- a process

-- the limits are those of a domain's numbers
pub record LimitsOf (p : Params) (now' : ℕ) (l : Limits) : Type 0 where
  pub calls : l.calls ≡ p.quiescence_threshold - 1
  pub hazard : l.hazard ≡ p.hazards - 1
  pub nodes : l.nodes ≡ p.nodes
  pub clock : l.clock ≡ now'

module _ (ws : List ℕ) (p : Params) (clock a : ℕ) (l : Limits) (of : LimitsOf p clock l) (few : Between 1 most_hazards p.hazards) where
  abbrev k : ℕ
  k = p.hazards

  abbrev lead : Lead
  lead = shape.lead.get (drop a ws)

  abbrev hazards_fit : Bool
  hazards_fit = all_upto (λ h. hazard_fits p.nodes ws (a + hazard_place shape h)) k

  abbrev store_at : ℕ → Bool
  store_at e = store_fits lead.stores k p.nodes clock ws (a + store_place shape k e) e

  hazards-are : hazards_within l.nodes ws (a + shape.lead_width - 1) k ≡ (leb lead.present 1 && hazards_fit)
  hazards-are =
      let e : a + shape.lead_width - 1 ≡ a + present_word = omega arith in
      let said : word ws (a + present_word) ≡ lead.present = ap (λ (r : Lead). r.present) (sym (lead_from_lem ws a)) in
      let same = all-ext _ _ k
      (λ i _. let q : a + present_word + 1 + hazard_width * i ≡ a + hazard_place shape i = omega arith in ap (hazard_fits p.nodes ws) q) in
      (λ t. hazards_within (of.nodes t) ws (e t) k)
      ∙ hazards_fit_lem ws p.nodes p refl (a + present_word) k few.0
      ∙ (λ t. leb (said t) 1 && same t)

  stores-are : lead.stores ≤ buffer_size → stores_within l lead.stores ws (a + stores_place shape k) ≡ all_upto store_at buffer_size
  stores-are h =
      all-ext _ store_at buffer_size
      (λ e i. let q : a + stores_place shape k + store_width * e ≡ a + store_place shape k e = omega arith in
      let z : 0 + e ≡ e = omega arith in
      (λ t. store_within l lead.stores ws (q t) (z t))
      ∙ store_fits_lem l lead.stores k ws few.0 of.hazard h (a + store_place shape k e) e i
      ∙ (λ t. store_fits lead.stores k (of.nodes t) (of.clock t) ws (a + store_place shape k e) e))

  -- where the first four words do not fit, nothing else matters
  rest-fits : (b : Bool) → four_fit p.quiescence_threshold lead ≡ b
      → (b
      && (hazards_within l.nodes ws (a + shape.lead_width - 1) k && stores_within l lead.stores ws (a + stores_place shape k)))
      ≡ ((b && leb lead.present 1) && (hazards_fit && all_upto store_at buffer_size))
  rest-fits false e = refl
  rest-fits true e =
      (λ t. hazards-are t && stores-are (four-stores p.quiescence_threshold lead e) t)
      ∙ and_assoc (leb lead.present 1) hazards_fit (all_upto store_at buffer_size)

  pub process-fits : 1 ≤ p.quiescence_threshold → process_within l k ws a ≡ process_fits_by shape p clock ws a
  unfolding process_within process_fits_by
  process-fits q =
      rw (of.calls, four_fit_lem ws a p.quiescence_threshold q, lead-split p.quiescence_threshold lead)
      (rest-fits (four_fit p.quiescence_threshold lead) refl)

-- ---- a turn of the loop over the processes, and its end

module _ (ws : List ℕ) where
  abbrev a₀ : Params
  a₀ = params_in ws

  abbrev clock₀ : ℕ
  clock₀ = (shape.head.get ws).clock

  abbrev pub fits : ℕ → Bool
  fits p = process_fits_by shape a₀ clock₀ ws (process_start shape a₀.hazards p)

  pub process-turn : Ready ws → (l : Limits) → LimitsOf a₀ clock₀ l → (k at p : ℕ) (x y : Bool) → k ≡ a₀.hazards
      → at ≡ process_start shape a₀.hazards p → x ≡ all_upto fits p → y ≡ (x && process_within l k ws at) → y ≡ all_upto fits (p + 1)
  process-turn ready l of k at p x y ek ea hx hy =
      let fit = process-fits ws a₀ clock₀ (process_start shape a₀.hazards p) l of ready.sizes.hazards ready.quiescence in
      rw (hy, ek, ea, fit) (all_more fits p x hx)

  -- the words of a further process are there
  pub process-room : (k p at : ℕ) → Ready ws → k ≡ a₀.hazards → p < a₀.processes → at ≡ process_start shape a₀.hazards p
      → at + process_width shape k ≤ length ws
  process-room k p at ready ek h e =
      let l : suc p * a₀.hazards ≤ a₀.processes * a₀.hazards = mul-le-mul_right a₀.hazards h in omega (arith, ready.sizes.long)
