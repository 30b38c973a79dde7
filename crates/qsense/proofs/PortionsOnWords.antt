-- A portion of a scan, and portions in a row, on words: refused as the step is, and else the model's. Assumes nothing.
use Prim.Native.Nat.{ℕ}
use mathlib.Core.Bool.{Bool, true, false, cond}
use mathlib.Core.List.{List, [], ◌∷◌}
use mathlib.Core.Path.{◌≡◌, refl, sym, ap, ◌∙◌, subst}
use mathlib.Core.Logic.{◌≢◌}
use lib.Dec.{eqb}
use borrow.Author.Tests.{eqb-true, eqb-false}
use Rattle.lists.proofs.Bools.{by_cond, through-cond}
use Rattle.model.specs.State.{Domain}
use Rattle.model.specs.WellFormed.{WellFormed}
use Rattle.model.specs.Kinds.{Portion}
use Rattle.model.specs.Questions.{ask, refusal_of, questions}
use Rattle.model.specs.Portion.{portion}
use Rattle.model.specs.Machine.{PortionAnswer, portion_step, portioned, declined}
use Rattle.model.specs.Claims.{ExactPortion, InPortions, freeing_more, portions}
use Rattle.model.proofs.Theorems as Model
use Rattle.model.proofs.Portions.{call-taken}
use Rattle.layout.specs.Encode.{encode, decode}
use Rattle.layout.specs.Words.{well_formed}
use Rattle.layout.proofs.Sound.{decoded}
use Rattle.layout.proofs.Checked.{well-formed-sound, well-formed-encode}
use Rattle.qsense.specs.Calls.{PortionReply, declining, portion_through, portion_words, step_words, through_words}
use Rattle.qsense.specs.Calls.{refusing}
use Rattle.qsense.specs.Demands.{RefusesPortion, portion_at, step_reply, PortionIsStepWords, scanned_of}
use Rattle.qsense.specs.Demands.{PortionIsExactWords, PortionsReply, freed_before, portions_words}
use Rattle.qsense.specs.Demands.{PortionsAreScanWords, PortionsEndWords}

-- ---- refused

portion-refusal : (d : Domain) (p a l : ℕ) → (portioned d p a l).refusal ≡ refusal_of Portion d (portion_step p a l)
unfolding portioned
portion-refusal d p a l =
    by_cond (λ (x : PortionAnswer). x.refusal ≡ refusal_of Portion d (portion_step p a l)) (eqb (refusal_of Portion d (portion_step p a l)) 0)
    (λ e. sym (eqb-true _ 0 e)) (λ _. refl)

portion-declined : (d : Domain) (p a l : ℕ) → refusal_of Portion d (portion_step p a l) ≢ 0
    → portioned d p a l ≡ declined (refusal_of Portion d (portion_step p a l)) d
unfolding portioned
portion-declined d p a l no' =
    by_cond (λ (x : PortionAnswer). x ≡ declined (refusal_of Portion d (portion_step p a l)) d) (eqb (refusal_of Portion d (portion_step p a l)) 0)
    (λ e. absurd (no' (eqb-true _ 0 e))) (λ _. refl)

pub portion-refuses : (ws : List ℕ) (p a l : ℕ) (b : Bool) → well_formed ws ≡ b
    → RefusesPortion (ask 3 b ∷ questions Portion (decode ws) (portion_step p a l)) ws
    (cond b (portion_through (portioned (decode ws) p a l)) (declining 3 ws))
portion-refuses ws p a l true e =
    record {
      number = portion-refusal (decode ws) p a l;
      unchanged = λ no'. ap portion_through (portion-declined (decode ws) p a l no')
          ∙ ap (declining (refusal_of Portion (decode ws) (portion_step p a l))) (sym (well-formed-sound ws e).whole);
    }
portion-refuses ws p a l false e = record { number = refl; unchanged = λ _. refl }

-- ---- the step

pub portion-is-step : PortionIsStepWords
unfolding step_words portion_words
portion-is-step ws p h a l =
    ap (λ o. cond (well_formed ws) (through_words o) (refusing 3 ws))
    (Model.unread-fields (decode ws) (portion_at p h a l) (portion_step p a l)
    (record { kind = refl; process = λ _. refl; hazard = λ e. absurd (eqb-false 0 1 refl (ap (λ (b : Bool). cond b 1 0) e)); node = λ _. refl; guest = λ _. refl })
    ∙ Model.portion-is-step (decode ws) p a l)
    ∙ through-cond step_reply (well_formed ws) _ _

-- ---- exact

-- the call as the words of a well-formed domain have it, which is well formed after it
still-well : (d : Domain) (p a l : ℕ) → WellFormed d → WellFormed (portioned d p a l).after
still-well d p a l f =
    subst (λ (o : Domain). WellFormed o) (ap (λ o. o.after) (Model.portion-is-step d p a l)) (Model.step-well-formed d (portion_step p a l) f)

exact-call : (d : Domain) (p a l : ℕ) → WellFormed d → (portioned d p a l).refusal ≡ 0
    → ExactPortion d p a l (scanned_of (portion_through (portioned d p a l)))
exact-call d p a l f h =
    let t = call-taken d p a l h in
    let back : decode (encode (portioned d p a l).after) ≡ (portioned d p a l).after = decoded refl (still-well d p a l f) in
    let e : scanned_of (portion_through (portioned d p a l)) ≡ portion d p a l =
    (λ i. record {
      freed = (portioned d p a l).freed;
      examined = (portioned d p a l).examined;
      next = (portioned d p a l).next;
      left = (portioned d p a l).left;
      after = back i;
    })
    ∙ ap (λ (x : PortionAnswer). record { freed = x.freed; examined = x.examined; next = x.next; left = x.left; after = x.after }) t.portion' in
    subst (ExactPortion d p a l) (sym e) (Model.portion-is-exact d p a l f t.start t.some')

pub portion-is-exact : PortionIsExactWords
unfolding portion_words
portion-is-exact ws p a l =
    by_cond (λ (r : PortionReply). r.refusal ≡ 0 → ExactPortion (decode ws) p a l (scanned_of r)) (well_formed ws)
    (λ e. exact-call (decode ws) p a l (well-formed-sound ws e).domain)
    (λ _ e. absurd (eqb-false 3 0 refl e))

-- ---- in a row

through : {d : Domain} → WellFormed d → (p a l : ℕ) → portion_words (encode d) p a l ≡ portion_through (portioned d p a l)
unfolding portion_words
through {d} f p a l = rw (well-formed-encode f) (ap (λ (x : Domain). portion_through (portioned x p a l)) (decoded refl f))

abbrev words_of : InPortions → PortionsReply
words_of x = record { freed = x.freed; next = x.next; words = encode x.after }

row-through : (ls : List ℕ) {d : Domain} → WellFormed d → (p a : ℕ) → portions_words (encode d) p a ls ≡ words_of (portions d p a ls)
row-through [] f p a = refl
row-through (l ∷ ls) {d} f p a =
    let x = portioned d p a l in
    let stop : PortionsReply = record { freed = 0; next = a; words = encode d } in
    ap (λ (r : PortionReply). cond (eqb r.refusal 0) (freed_before r.freed (portions_words r.words p r.next ls)) stop) (through f p a l)
    ∙ ap (λ (r : PortionsReply). cond (eqb x.refusal 0) (freed_before x.freed r) stop) (row-through ls (still-well d p a l f) p x.next)
    ∙ through-cond words_of (eqb x.refusal 0) (freeing_more x.freed (portions x.after p x.next ls)) (record { freed = 0; next = a; after = d })

-- of any words that are well formed
of_words : (ws : List ℕ) → well_formed ws ≡ true → (p : ℕ) (ls : List ℕ) → portions_words ws p 0 ls ≡ words_of (portions (decode ws) p 0 ls)
of_words ws e p ls =
    let s = well-formed-sound ws e in
    ap (λ (w : List ℕ). portions_words w p 0 ls) s.whole ∙ row-through ls s.domain p 0

pub portions-are-scan : PortionsAreScanWords
portions-are-scan ws p ls e h =
    let o = of_words ws e p ls in
    let w = Model.portions-are-scan (decode ws) p ls (well-formed-sound ws e).domain (sym (ap (λ r. r.next) o) ∙ h) in (
      ap (λ r. r.freed) o ∙ w.freed,
      ap (λ r. r.words) o ∙ ap (λ (x : Domain). encode x) w.after,
    )

pub portions-end : PortionsEndWords
portions-end ws p ls e hp ht ok h =
    ap (λ r. r.next) (of_words ws e p ls) ∙ Model.portions-end (decode ws) p ls (well-formed-sound ws e).domain hp ht ok h
