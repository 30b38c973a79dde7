-- Each demand of specs/Demands.antt, with its proof. Assumes nothing.
use Prim.Native.Nat.{ℕ, ◌+◌, ◌≤◌}
use mathlib.Core.Bool.{Bool, true, false, cond}
use mathlib.Core.List.{List, [], ◌∷◌}
use mathlib.Core.Path.{◌≡◌, refl, sym, ap, ◌∙◌, subst}
use mathlib.Core.Logic.{◌≢◌}
use native.Mathlib.Omega.{arith}
use lib.ListN.{length}
use lib.Dec.{eqb}
use borrow.Author.Tests.{eqb-true, eqb-false}
use Rattle.std.specs.Prelude.{Result, Ok, Err}
use Rattle.lists.specs.Tests.{every, count}
use Rattle.refusals.specs.declared.Refusal.{Refusal}
use Rattle.lists.proofs.Bools.{by_cond}
use Rattle.model.specs.Params.{Params, buffer_size, word_count}
use Rattle.model.specs.State.{Domain, Step, is_present}
use Rattle.model.specs.WellFormed.{WellFormed}
use Rattle.model.specs.Kinds.{kind_of}
use Rattle.model.specs.Hazards.{here, young}
use Rattle.model.specs.Questions as Q
use Rattle.model.specs.Questions.{ask, first_no, node_in_range, questions}
use Rattle.model.specs.Why.{Why, Refused, Told, why}
use Rattle.model.specs.Retire.{Effect}
use Rattle.model.specs.Machine.{Outcome, answered, act, step, run, fresh}
use Rattle.model.specs.Reference.{initial}
use Rattle.model.specs.Claims.{raises, lowers, no_history, turned_free, freed_count, reachable_count}
use Rattle.model.specs.Rounds.{machine, Transition, comes_or_goes, owner_leaves, FreedInRounds}
use Rattle.model.proofs.Theorems as Model
use Rattle.model.proofs.Freed.{none-turned}
use Rattle.layout.specs.Encode.{encode, decode}
use Rattle.layout.specs.Words.{well_formed}
use Rattle.layout.proofs.Sound.{decoded}
use Rattle.layout.proofs.Checked.{well-formed-sound}
use Rattle.layout.specs.Ranges.{in_range}
use Rattle.trace.specs.Trace as T
use Rattle.trace.specs.Trace.{Reading, refused, given, Front, front_at, front_of, trace_at, trace_of, trailer_right}
use Rattle.trace.specs.Trace.{params_of, questioned}
use Rattle.trace.specs.Values.{opened_value, refusal_of}
use Rattle.trace.specs.declared.Header.{Header}
use Rattle.qsense.specs.Calls.{Reply, refusing, through_words, make_words, step_words, portion_words}
use Rattle.qsense.specs.Calls.{reachable_words}
use Rattle.qsense.specs.Calls.{why_words, run_words}
use Rattle.qsense.specs.Demands.{short, Refuses, Declines, Tells, Demand1, ToldExactly, WhyIsExactWords}
use Rattle.qsense.specs.Demands.{Demand2, RemoveTakenBackWords, FreedAreCountedWords, RefusedForStores}
use Rattle.qsense.specs.Demands.{PortionIsStepWords, PortionIsExactWords, PortionsAreScanWords}
use Rattle.qsense.specs.Demands.{PortionsEndWords}
use Rattle.qsense.specs.Demands.{LatenessIsDelayWords, Demand3Words, calling, SevenRoundsWords}
use Rattle.qsense.specs.Demands.{SevenRoundsOfOwnerWords, SixRoundsWords}
use Rattle.qsense.specs.Demands.{accepted_in, outcome_of, FollowsWords}
use Rattle.qsense.proofs.ModelOnWords.{step_through, run-through, run-well-formed, counted, panel-through}
use Rattle.qsense.proofs.ModelOnWords.{accepted-through}
use Rattle.qsense.proofs.Made.{made}
use Rattle.qsense.proofs.Demand3OnWords.{follows-words}
use Rattle.qsense.proofs.RoundsOnWords.{freed-through}
use Rattle.qsense.proofs.RefusedForStores.{full, old}
use Rattle.qsense.proofs.LatenessOnWords as Lateness
use Rattle.qsense.proofs.PortionsOnWords as Portions

-- ---- Demand 1

-- the number that turns an effect away is the outcome's
refusal_is : (r : ℕ) (d : Domain) (e : Effect) → (answered r d e).refusal ≡ r
refusal_is r d e = by_cond (λ (o : Outcome). o.refusal ≡ r) (eqb r 0) (λ h. sym (eqb-true r 0 h)) (λ _. refl)

step-refusal : (d : Domain) (s : Step) → (step d s).refusal ≡ Q.refusal_of (kind_of s.kind) d s
unfolding step
step-refusal d s = refusal_is _ d (act (kind_of s.kind) d s)

refused-words : (ws : List ℕ) (s : Step) → well_formed ws ≡ true → (step (decode ws) s).refusal ≢ 0
    → through_words (step (decode ws) s) ≡ refusing (step (decode ws) s).refusal ws
refused-words ws s e no' =
    let u = Model.refused-unchanged (decode ws) s no' in
    let same : encode (step (decode ws) s).after ≡ ws = ap (λ (d : Domain). encode d) u.1 ∙ sym (well-formed-sound ws e).whole in
    λ t. record { refusal = (step (decode ws) s).refusal; value = u.0 t; words = same t }

-- of a call with one answer to each question
make-refuses : (ws ws' : List ℕ) (b c : Bool)
    → Refuses (ask 1 b ∷ ask 2 c ∷ []) ws
    (cond b (cond c (record { refusal = 0; value = 0; words = ws' }) (refusing 2 ws)) (refusing 1 ws))
make-refuses ws ws' true true = record { number = refl; unchanged = λ no'. absurd (no' refl) }
make-refuses ws ws' true false = record { number = refl; unchanged = λ _. refl }
make-refuses ws ws' false c = record { number = refl; unchanged = λ _. refl }

reachable-refuses : (ws : List ℕ) (n : ℕ) (b : Bool)
    → Refuses (ask 3 b ∷ []) ws (cond b (record { refusal = 0; value = n; words = ws }) (refusing 3 ws))
reachable-refuses ws n true = record { number = refl; unchanged = λ no'. absurd (no' refl) }
reachable-refuses ws n false = record { number = refl; unchanged = λ _. refl }

why-tells : (w : Why) (b r : Bool) → Tells (ask 3 b ∷ ask 7 r ∷ []) (cond b (cond r (Told w) (Refused 7)) (Refused 3))
why-tells w true true = record { refuses = λ no'. absurd (no' refl); tells = λ _. (w, refl) }
why-tells w true false = record { refuses = λ _. refl; tells = λ e. absurd (omega arith) }
why-tells w false r = record { refuses = λ _. refl; tells = λ e. absurd (omega arith) }

step-refuses : (ws : List ℕ) (s : Step) (b : Bool) → well_formed ws ≡ b
    → Refuses (ask 3 b ∷ questions (kind_of s.kind) (decode ws) s) ws (cond b (through_words (step (decode ws) s)) (refusing 3 ws))
step-refuses ws s true e =
    let n = step-refusal (decode ws) s in
    record {
      number = n;
      unchanged = λ no'. refused-words ws s e (λ z. no' (sym n ∙ z)) ∙ ap (λ (k : ℕ). refusing k ws) n;
    }
step-refuses ws s false e = record { number = refl; unchanged = λ _. refl }

trace-declines : {A : Type 0} (x : A) (l t r : Bool)
    → Declines (ask 18 l ∷ ask 19 t ∷ ask 1 r ∷ []) (T.ask l 18 (T.ask t 19 (T.ask r 1 (given x))))
trace-declines x true true true = record { refuses = λ no'. absurd (no' refl); gives = λ _. (x, refl) }
trace-declines x false t r = record { refuses = λ _. refl; gives = λ e. absurd (omega arith) }
trace-declines x true false r = record { refuses = λ _. refl; gives = λ e. absurd (omega arith) }
trace-declines x true true false = record { refuses = λ _. refl; gives = λ e. absurd (omega arith) }

-- the number of a reading, 0 for one that is given
abbrev number_in : Reading Front → ℕ
number_in (refused n) = n
number_in (given f) = 0

number-asked : (f : Front) (l t r : Bool)
    → number_in (T.ask l 18 (T.ask t 19 (T.ask r 1 (given f)))) ≡ first_no (ask 18 l ∷ ask 19 t ∷ ask 1 r ∷ [])
number-asked f true true true = refl
number-asked f false t r = refl
number-asked f true false r = refl
number-asked f true true false = refl

number-opened : (o : Result Header Refusal) → refusal_of o ≡ number_in (opened_value o)
number-opened (Ok h) = refl
number-opened (Err r) = refl

pub demand-1 : Demand1
unfolding make_words reachable_words why_words step_words portion_words trace_of front_of questioned
demand-1 = record {
  make = λ ws a. make-refuses ws (encode (fresh a)) (in_range a) (eqb (length ws) (word_count a));
  reachable = λ ws. reachable-refuses ws (reachable_count (decode ws)) (well_formed ws);
  why = λ ws c. why-tells (why (decode ws) c) (well_formed ws) (node_in_range (decode ws) c);
  step = λ ws s. step-refuses ws s (well_formed ws) refl;
  portion = λ ws p a l. Portions.portion-refuses ws p a l (well_formed ws) refl;
  trace = λ bs. trace-declines (trace_at bs) (short bs) (trailer_right bs) (in_range (params_of bs));
  opened = λ bs o e. number-opened o ∙ ap number_in e
      ∙ number-asked (front_at bs) (short bs) (trailer_right bs) (in_range (params_of bs));
}

-- ---- Demand 2

-- what is promised of a run from the words w
abbrev Counts : List Step → List ℕ → Type 0
Counts ss w =
    ((reachable_words (run_words w ss)).refusal ≡ 0)
    × ((reachable_words (run_words w ss)).value + accepted_in lowers w ss ≡ accepted_in raises w ss)

counts-fresh : (a : Params) (ss : List Step) → WellFormed (fresh a) → Counts ss (encode (fresh a))
counts-fresh a ss f =
    let e : reachable_words (run_words (encode (fresh a)) ss) ≡ counted (run (fresh a) ss) =
    ap (λ (w : List ℕ). reachable_words w) (run-through ss f) ∙ panel-through (run-well-formed ss f) in (
      ap (λ (r : Reply). r.refusal) e,
      omega (arith, ap (λ (r : Reply). r.value) e, accepted-through lowers ss f, accepted-through raises ss f, Model.panel a ss),
    )

pub demand-2 : Demand2
demand-2 ws a ss ok =
    let m = made ws a ok in subst (Counts ss) (sym m.words) (counts-fresh a ss (Model.fresh-well-formed a m.range))

-- ---- a remove that is taken back

pub remove-taken-back : RemoveTakenBackWords
unfolding step_words
remove-taken-back ws s t b =
    by_cond (λ (r : Reply). r.refusal ≡ 0 → step_words r.words t ≡ refusing 0 ws) (well_formed ws)
    (λ e ok. let w = well-formed-sound ws e in
    step_through (Model.step-well-formed (decode ws) s w.domain) t
    ∙ ap through_words (Model.remove-taken-back (decode ws) s t w.domain b ok) ∙ ap (refusing 0) (sym w.whole))
    (λ _ e. absurd (eqb-false 3 0 refl e))

-- ---- freed counts, and refusals for stores

pub freed-are-counted : FreedAreCountedWords
unfolding step_words
freed-are-counted ws s =
    by_cond (λ r. turned_free (decode ws) (decode r.words) ≡ freed_count s (outcome_of r)) (well_formed ws)
    (λ e. ap (λ (d : Domain). turned_free (decode ws) d)
    (decoded refl (Model.step-well-formed (decode ws) s (well-formed-sound ws e).domain))
    ∙ Model.freed-are-counted (decode ws) s)
    (λ _. none-turned (decode ws))

pub refused-for-stores : RefusedForStores
unfolding step_words
refused-for-stores ws s =
    by_cond
    (λ (r : Reply). (r.refusal ≡ 13 → buffer_size ≤ length (here (decode ws) s).buffer)
    × (r.refusal ≡ 16 → every (young (decode ws)) (decode ws).processes ≡ false))
    (well_formed ws)
    (λ _. (
      (λ e. full (kind_of s.kind) (decode ws) s (sym (step-refusal (decode ws) s) ∙ e)),
      (λ e. old (kind_of s.kind) (decode ws) s (sym (step-refusal (decode ws) s) ∙ e)),
    ))
    (λ _. ((λ e. absurd (eqb-false 3 13 refl e)), (λ e. absurd (eqb-false 3 16 refl e))))

-- ---- why a node waits

pub why-is-exact : WhyIsExactWords
unfolding why_words
why-is-exact ws c =
    by_cond (ToldExactly (decode ws) c) (well_formed ws)
    (λ e. by_cond (ToldExactly (decode ws) c) (node_in_range (decode ws) c)
    (λ _. Model.why-is-exact (decode ws) c (well-formed-sound ws e).domain)
    (λ _. tt))
    (λ _. tt)

-- ---- a scan in portions

pub portion-is-step : PortionIsStepWords
portion-is-step = Portions.portion-is-step

pub portion-is-exact : PortionIsExactWords
portion-is-exact = Portions.portion-is-exact

pub portions-are-scan : PortionsAreScanWords
portions-are-scan = Portions.portions-are-scan

pub portions-end : PortionsEndWords
portions-end = Portions.portions-end

-- ---- E is nothing but a longer T

pub lateness-is-delay : LatenessIsDelayWords
lateness-is-delay = Lateness.lateness-is-delay-words

-- ---- Demand 3

pub demand-3 : Demand3Words
demand-3 ws a ss ok =
    let m = made ws a ok in
    let q = initial a.processes a.hazards a.nodes in
    subst (λ (w : List ℕ). FollowsWords a q w no_history ss) (sym m.words)
    (follows-words a ss q no_history (Model.fresh-well-formed a m.range) (Model.demand-3 a ss))

-- ---- freed within seven rounds

-- the words that a run leaves are those of the domain that it comes to
run-left : (ws : List ℕ) (a : Params) (ss : List Step) → (make_words ws a).refusal ≡ 0 → run_words (make_words ws a).words ss ≡ encode (run (fresh a) ss)
run-left ws a ss ok =
    let m = made ws a ok in
    ap (λ (w : List ℕ). run_words w ss) m.words ∙ run-through ss (Model.fresh-well-formed a m.range)

run-formed : (ws : List ℕ) (a : Params) (ss : List Step) → (make_words ws a).refusal ≡ 0 → WellFormed (run (fresh a) ss)
run-formed ws a ss ok = run-well-formed ss (Model.fresh-well-formed a (made ws a ok).range)

in_rounds_lem : (barred : ℕ → Transition → Bool) (n : ℕ) (ws : List ℕ) (a : Params) (ss : List Step) → (make_words ws a).refusal ≡ 0
    → FreedInRounds (machine step) barred n (run (fresh a) ss) → FreedInRounds calling barred n (run_words (make_words ws a).words ss)
in_rounds_lem barred n ws a ss ok x =
    subst (λ (w : List ℕ). FreedInRounds calling barred n w) (sym (run-left ws a ss ok)) (freed-through barred n (run-formed ws a ss ok) x)

pub seven-rounds : SevenRoundsWords
seven-rounds ws a ss ok = in_rounds_lem (λ _. comes_or_goes) _ ws a ss ok (Model.seven-rounds a ss (made ws a ok).range)

pub seven-rounds-of-owner : SevenRoundsOfOwnerWords
seven-rounds-of-owner ws a ss ok = in_rounds_lem owner_leaves _ ws a ss ok (Model.seven-rounds-of-owner a ss (made ws a ok).range)

pub six-rounds : SixRoundsWords
six-rounds ws a ss ok one =
    in_rounds_lem owner_leaves _ ws a ss ok (Model.six-rounds a ss (made ws a ok).range
    (subst (λ (d : Domain). count is_present d.processes ≤ 1) (decoded (run-left ws a ss ok) (run-formed ws a ss ok)) one))
