-- Demand 2 shuts out the six programs of specs/Impostors.antt: on closed runs by computation, and where a law says it, at every call.
-- Assumes nothing.
use Prim.Native.Nat.{ℕ, suc}
use mathlib.Core.Bool.{Bool, true, false, ◌&&◌, ◌||◌, false≢true}
use mathlib.Core.List.{List, [], ◌∷◌}
use mathlib.Core.Path.{◌≡◌, refl, sym, ap, ◌∙◌}
use native.Mathlib.Omega.{arith}
use borrow.Author.Tests.{eqb-true, eqb-false}
use lib.ListN.{length}
use lib.Dec.{ltb, eqb}
use Rattle.lists.specs.Tests.{every}
use Rattle.lists.proofs.Bools.{by_cond, both}
use Rattle.lists.proofs.Facts.{every-at}
use Rattle.model.specs.Params.{Params, InRange}
use Rattle.model.specs.State.{Pending, Process, Domain, Step, no_process}
use Rattle.model.specs.WellFormed.{WellFormed}
use Rattle.model.specs.Kinds.{kind_count}
use Rattle.model.specs.Hazards.{here, young}
use Rattle.model.specs.Machine.{step, run, fresh}
use Rattle.model.specs.Cases.{step_of, protect, use', tick, manage}
use Rattle.model.specs.Claims.{turned_free, freed_count}
use Rattle.model.proofs.Theorems.{fresh-well-formed, step-well-formed}
use Rattle.model.proofs.Freed.{none-turned}
use Rattle.layout.specs.Shape.{word}
use Rattle.layout.specs.Codecs.{clock_word}
use Rattle.layout.specs.Encode.{encode, encode_by, decode}
use Rattle.layout.proofs.Sound.{decoded}
use Rattle.qsense.specs.Calls.{Reply, through_words, step_words, run_words}
use Rattle.qsense.specs.Demands.{outcome_of}
use Rattle.qsense.specs.Impostors.{Call, Program, call, right, calls_from, turned, freed_before, only_says}
use Rattle.qsense.specs.Impostors.{FreesOnce, NoStores, least, guarded, sixth, once, twice, Excluded}
use Rattle.qsense.proofs.ModelOnWords.{step_through, run-through, run-well-formed}
use Rattle.qsense.proofs.Theorems.{freed-are-counted, refused-for-stores}

-- ---- the right reply after a run, as the model gives it

module _ (a : Params) (ok : InRange a) (ss : List Step) (s : Step) where
  abbrev now' : Call
  now' = call (run_words (encode (fresh a)) ss) s

  through : right now' ≡ through_words (step (run (fresh a) ss) s)
  through =
      let f = fresh-well-formed a ok in
      ap (λ (ws : List ℕ). step_words ws s) (run-through ss f) ∙ step_through (run-well-formed ss f) s

  -- of a program that gives it
  module _ (f : Program) (e : f (calls_from (encode (fresh a)) ss) now' ≡ right now') where
    refusal_is : (f (calls_from (encode (fresh a)) ss) now').refusal ≡ (step (run (fresh a) ss) s).refusal
    refusal_is = ap (λ (r : Reply). r.refusal) (e ∙ through)

    value-is : (f (calls_from (encode (fresh a)) ss) now').value ≡ (step (run (fresh a) ss) s).value
    value-is = ap (λ (r : Reply). r.value) (e ∙ through)

    words_are : (f (calls_from (encode (fresh a)) ss) now').words ≡ encode (step (run (fresh a) ss) s).after
    words_are = ap (λ (r : Reply). r.words) (e ∙ through)

    turned-are : turned f (calls_from (encode (fresh a)) ss) now' ≡ freed_count s (step (run (fresh a) ss) s)
    turned-are =
        ap (λ (r : Reply). turned_free (decode now'.words) (decode r.words)) e
        ∙ freed-are-counted now'.words s ∙ ap (λ (r : Reply). freed_count s (outcome_of r)) through

fits-least : InRange least
fits-least = omega arith

fits-sixth : InRange sixth
fits-sixth = omega arith

-- ---- whether a manage of a run was to free

abbrev freed_in : Domain → List Step → Bool
freed_in d [] = false
freed_in d (s ∷ ss) = (eqb s.kind 12 && ltb 0 (step d s).value) || freed_in (step d s).after ss

freed-through : (ss : List Step) {d : Domain} → WellFormed d → freed_before (calls_from (encode d) ss) ≡ freed_in d ss
freed-through [] f = refl
freed-through (s ∷ ss) {d} f =
    ap (λ (r : Reply). (eqb s.kind 12 && ltb 0 r.value) || freed_before (calls_from r.words ss)) (step_through f s)
    ∙ ap (λ (b : Bool). (eqb s.kind 12 && ltb 0 (step d s).value) || b) (freed-through ss (step-well-formed d s f))

freed-once : freed_before (calls_from (encode (fresh sixth)) twice) ≡ true
unfolding step fresh
freed-once = freed-through twice (fresh-well-formed sixth fits-sixth)

-- ---- only says so

only_says_lem : FreesOnce only_says
only_says_lem h c b k =
    let t : (freed_before h && eqb c.step.kind 12) ≡ true = rw (b, k) in
    by_cond (λ (r : Reply). turned_free (decode c.words) (decode r.words) ≡ 0) (freed_before h && eqb c.step.kind 12)
    (λ _. none-turned (decode c.words)) (λ n. absurd (false≢true (sym n ∙ t)))

-- ---- no stores

no_store_lem : (d : Domain) (s : Step) → NoStores d → length (here d s).buffer ≡ 0
no_store_lem d s h = eqb-true _ 0 (every-at (λ x. eqb (length x.buffer) 0) d.processes s.process no_process h refl)

vacuous : (f : Pending → Bool) (b : List Pending) → length b ≡ 0 → every f b ≡ true
vacuous f [] h = refl
vacuous f (e ∷ b) h = absurd (omega arith)

all-young : (d : Domain) (xs : List Process) → every (λ x. eqb (length x.buffer) 0) xs ≡ true → every (young d) xs ≡ true
all-young d [] h = refl
all-young d (x ∷ xs) h =
    let b = both (eqb (length x.buffer) 0) _ h in rw (vacuous _ x.buffer (eqb-true _ 0 b.0)) (all-young d xs b.1)

-- none in a fresh domain's words
none-fresh : NoStores (decode (encode (fresh least)))
unfolding fresh
none-fresh =
    ap (λ (d : Domain). every (λ x. eqb (length x.buffer) 0) d.processes)
    (decoded refl (fresh-well-formed least fits-least))

module _ (f : Program) (h : List Call) (c : Call) (none : NoStores (decode c.words)) (e : f h c ≡ right c) where
  not_full : (f h c).refusal ≡ 13 → ⊥
  not_full r =
      let l = (refused-for-stores c.words c.step).0 (ap (λ (x : Reply). x.refusal) (sym e) ∙ r) in
      omega (arith, l, no_store_lem (decode c.words) c.step none)

  not-due : (f h c).refusal ≡ 16 → ⊥
  not-due r =
      let o = (refused-for-stores c.words c.step).1 (ap (λ (x : Reply). x.refusal) (sym e) ∙ r) in
      false≢true (sym o ∙ all-young (decode c.words) (decode c.words).processes none)

-- ---- the six, in the record's order

pub excluded : Excluded
unfolding step fresh encode_by
excluded = record {
  refuses-each = λ f w e. w _ _ (refusal_is least fits-least [] tick f e);
  answers-zeros = (
    (λ f w e. eqb-false 0 70 refl (sym (w _ _).1 ∙ value-is least fits-least guarded (use' 0 0) f e)),
    (λ f w e. eqb-false 0 4 refl (sym (w _ _).0 ∙ refusal_is least fits-least [] (step_of (suc kind_count) 0 0 0 0) f e)),
  );
  writes_nothing =
      λ f w e. eqb-false 0 1 refl
      (ap (λ (ws : List ℕ). word ws clock_word) (sym (w _ _) ∙ words_are least fits-least [] tick f e));
  frees-once = (
    only_says_lem,
    (λ f w e. eqb-false 0 1 refl (sym (w _ _ freed-once refl) ∙ turned-are sixth fits-sixth twice (manage 0) f e)),
  );
  miscounts = (
    (λ f h c n e. n (ap (λ (r : Reply). freed_count c.step (outcome_of r)) e
        ∙ sym (freed-are-counted c.words c.step)
        ∙ ap (λ (r : Reply). turned_free (decode c.words) (decode r.words)) (sym e))),
    (λ f w e. eqb-false 0 1 refl (sym (w _ _ refl) ∙ value-is sixth fits-sixth once (manage 0) f e)),
    (λ f w e. eqb-false 1 2 refl
        (sym (value-is sixth fits-sixth once (manage 0) f e) ∙ w _ _ refl (refusal_is sixth fits-sixth once (manage 0) f e)
        ∙ ap (λ n. suc n) (turned-are sixth fits-sixth once (manage 0) f e))),
  );
  reports-stores = (
    (λ f h c (none, r) e. not_full f h c none e r),
    (λ f h c (none, r) e. not-due f h c none e r),
    (λ f w e. eqb-false 13 0 refl (sym (w _ _ none-fresh refl) ∙ refusal_is least fits-least [] (protect 0 0 0) f e)),
    (λ f w e. eqb-false 16 0 refl (sym (w _ _ none-fresh refl) ∙ refusal_is least fits-least [] tick f e)),
  );
}
