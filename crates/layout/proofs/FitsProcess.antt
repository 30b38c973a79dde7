-- The test of a process at a place of the words, as the facts that it stands for, and back, in any layout. Assumes nothing.
use Prim.Native.Nat.{ℕ, zero, suc, ◌+◌, ◌*◌, ◌/◌, ◌%◌, ◌<◌, ◌≤◌}
use mathlib.Core.Bool.{Bool, true}
use mathlib.Core.List.{List, []}
use mathlib.Core.Path.{◌≡◌, refl, sym, ◌∙◌, ap, subst}
use native.Mathlib.Omega.{arith}
use lib.ListN.{length, take, drop, length-take, length-drop}
use Rattle.lists.specs.Upto.{all_upto}
use Rattle.lists.proofs.Bools.{both}
use Rattle.lists.proofs.Facts as F
use Rattle.lists.proofs.Upto.{all-at, all_yes, all_of}
use Rattle.lists.proofs.Rows.{length-unrows}
use Rattle.model.specs.Params.{Params, buffer_size, hazard_width, store_width, buffer_width}
use Rattle.model.specs.State.{Pending, Hazard, Process, empty_hazard}
use Rattle.model.specs.WellFormed.{HazardFits, PendingFits, StoresFit, ProcessFits}
use Rattle.layout.specs.Shape.{Shape, Lead, word, hazard_place, stores_place, store_place, process_width}
use Rattle.layout.specs.Codecs.{hazard_at, pending_at}
use Rattle.layout.specs.Encode.{process_words_by, process_by}
use Rattle.layout.specs.Words.{lead_fits, hazard_fits, store_fits, process_fits_by}
use Rattle.layout.proofs.Encode.{past-stores}
use Rattle.layout.proofs.Whole.{RowFits}
use Rattle.layout.proofs.Places.{pending_from, part-word, lead-place, hazard_place_lem, store_place_lem}
use Rattle.layout.proofs.Fits.{pass, LeadFits, lead-facts, lead-test, hazard-facts, hazard_test_lem, store-facts}
use Rattle.layout.proofs.Fits.{store-zeros, store_test_lem}

-- 0, 1 or 2
below-three : {C : Type 0} (m : ℕ) → m < 3 → (m ≡ 0 → C) → (m ≡ 1 → C) → (m ≡ 2 → C) → C
below-three zero h f g k = f refl
below-three (suc zero) h f g k = g refl
below-three (suc (suc zero)) h f g k = k refl
below-three (suc (suc (suc m))) h f g k = absurd (omega arith)

module _ (sh : Shape) (p : Params) (clock : ℕ) (ws : List ℕ) (a : ℕ) where
  abbrev k : ℕ
  k = p.hazards

  abbrev row : List ℕ
  row = take (process_width sh k) (drop a ws)

  abbrev lead : Lead
  lead = sh.lead.get (drop a ws)

  abbrev stores_at : ℕ
  stores_at = a + stores_place sh k

  abbrev store_test : ℕ → Bool
  store_test e = store_fits lead.stores k p.nodes clock ws (a + store_place sh k e) e

  abbrev hazard_test : ℕ → Bool
  hazard_test h = hazard_fits p.nodes ws (a + hazard_place sh h)

  row_word : (j b : ℕ) → j < process_width sh k → b ≡ a + j → word row j ≡ word ws b
  row_word j b h e = part-word ws (process_width sh k) a j b h e

  -- how many stores the row says are pending
  row-stores : (sh.lead.get row).stores ≡ lead.stores
  row-stores = ap (λ (l : Lead). l.stores) (lead-place sh ws k a)

  -- the words past the pending stores are 0
  row-rest : ((e : ℕ) → e < buffer_size → store_test e ≡ true) → (j : ℕ) → lead.stores * store_width ≤ j → j < buffer_width
      → word row (sh.lead_width + k * hazard_width + j) ≡ 0
  row-rest t j h l =
      let z = store-zeros p ws (a + store_place sh k (j / 3)) clock lead.stores (j / 3) (omega arith) (t (j / 3) (omega arith)) in
      let at : (b : ℕ) → b ≡ stores_at + j → word row (sh.lead_width + k * hazard_width + j) ≡ word ws b =
      λ b e. row_word (sh.lead_width + k * hazard_width + j) b (omega arith) (omega arith) in
      below-three (j % 3) (omega arith)
      (λ m. at (a + store_place sh k (j / 3)) (omega arith) ∙ z.0)
      (λ m. at (a + store_place sh k (j / 3) + 1) (omega arith) ∙ z.1)
      (λ m. at (a + store_place sh k (j / 3) + 2) (omega arith) ∙ z.2)

  row_fits : a + process_width sh k ≤ length ws → lead.stores ≤ buffer_size → ((e : ℕ) → e < buffer_size → store_test e ≡ true)
      → RowFits sh k row
  row_fits i l t =
      record {
        long = simp (length-take, length-drop) (omega arith);
        room = rw row-stores l;
        rest = λ j h. row-rest t j (omega (arith, row-stores));
      }

  stores-fit : lead.stores ≤ buffer_size → ((e : ℕ) → e < buffer_size → store_test e ≡ true) → ((h : ℕ) → h < k → hazard_test h ≡ true)
      → StoresFit p clock (process_by sh k row)
  unfolding process_by
  stores-fit few t u =
      let x : Process = process_by sh k row in
      let n : (sh.lead.get row).stores ≡ lead.stores = row-stores in
      let count : length x.buffer ≡ (sh.lead.get row).stores =
      length-unrows pending_at store_width (pending_at []) (sh.lead.get row).stores (drop (sh.lead_width + k * hazard_width) row) in
      let width : length x.hazards ≡ k = length-unrows hazard_at hazard_width empty_hazard k (drop sh.lead_width row) in
      record {
        room = omega arith;
        width = width;
        buffer = all_of (PendingFits p clock) (pending_at []) x.buffer
            (λ e l. rw (store_place_lem sh ws k a e (omega arith) (omega arith))
            (store-facts p ws (a + store_place sh k e) clock lead.stores e (omega arith) (t e (omega arith))));
        hazards = all_of (HazardFits p) empty_hazard x.hazards
            (λ h l. rw (hazard_place_lem sh ws k a h (omega arith)) (hazard-facts p ws (a + hazard_place sh h) (u h (omega arith))));
      }

  pub process-facts : a + process_width sh k ≤ length ws → process_fits_by sh p clock ws a ≡ true
      → ProcessFits p clock (process_by sh k row) × RowFits sh k row
  unfolding process_fits_by process_by
  process-facts i e =
      let e₀ = both (lead_fits p.quiescence_threshold lead) _ e in
      let e₁ = both (all_upto hazard_test k) _ e₀.1 in
      let l = lead-facts p.quiescence_threshold lead e₀.0 in
      let t : (e : ℕ) → e < buffer_size → store_test e ≡ true = λ e l. all-at store_test buffer_size e e₁.1 l in (
        record {
          words = rw (lead-place sh ws k a) (record { epoch = l.epoch; calls = l.calls; presence = l.presence; present = l.present });
          stores = stores-fit l.stores t (λ h l. all-at hazard_test k h e₁.0 l);
        },
        row_fits i l.stores t,
      )

  -- and back, of a row that is its process's words
  module _ (f : ProcessFits p clock (process_by sh k row)) (w : row ≡ process_words_by sh (process_by sh k row)) where
    count : length (process_by sh k row).buffer ≡ lead.stores
    unfolding process_by
    count =
        length-unrows pending_at store_width (pending_at []) (sh.lead.get row).stores (drop (sh.lead_width + k * hazard_width) row)
        ∙ row-stores

    past : (e i b : ℕ) → e < buffer_size → i < store_width → lead.stores ≤ e → b ≡ a + store_place sh k e + i → word ws b ≡ 0
    past e i b l h q j =
        let o = f.stores in
        sym (row_word (sh.lead_width + k * hazard_width + (store_width * e + i)) b (omega arith) (omega arith))
        ∙ (ap (λ (r : List ℕ). word r (sh.lead_width + k * hazard_width + (store_width * e + i))) w
        ∙ past-stores sh (process_by sh k row) k o.width o.room (store_width * e + i) (omega (arith, count)))

    pending : (e : ℕ) → e < lead.stores → PendingFits p clock (pending_from ws (a + store_place sh k e))
    pending e l =
        let b : List Pending = (process_by sh k row).buffer in
        subst (λ y. PendingFits p clock y)
        (store_place_lem sh ws k a e (omega (arith, row-stores)) (omega (arith, row-stores, f.stores.room, count)))
        (F.all-at (PendingFits p clock) b e (pending_at []) f.stores.buffer (omega (arith, count)))

    store-passes : (e : ℕ) → e < buffer_size → store_test e ≡ true
    store-passes e l =
        store_test_lem p ws (a + store_place sh k e) clock lead.stores e
        (pending e)
        (λ q. (past e 0 _ l (omega arith) q (omega arith), past e 1 _ l (omega arith) q refl, past e 2 _ l (omega arith) q refl))

    hazard-passes : (h : ℕ) → h < k → hazard_test h ≡ true
    hazard-passes h l =
        let hs : List Hazard = (process_by sh k row).hazards in
        hazard_test_lem p ws (a + hazard_place sh h)
        (subst (λ y. HazardFits p y) (hazard_place_lem sh ws k a h l)
        (F.all-at (HazardFits p) hs h empty_hazard f.stores.hazards (omega (arith, f.stores.width))))

    lead-passes : LeadFits p.quiescence_threshold lead
    unfolding process_by
    lead-passes =
        let g : LeadFits p.quiescence_threshold (sh.lead.get row) =
        record {
          epoch = f.words.epoch;
          calls = f.words.calls;
          presence = f.words.presence;
          stores = rw (row-stores, ← count) f.stores.room;
          present = f.words.present;
        } in
        subst (λ l. LeadFits p.quiescence_threshold l) (lead-place sh ws k a) g

    pub process_test_lem : process_fits_by sh p clock ws a ≡ true
    unfolding process_fits_by
    process_test_lem =
        pass (lead-test p.quiescence_threshold lead lead-passes)
        (pass (all_yes hazard_test k hazard-passes) (all_yes store_test buffer_size store-passes))
