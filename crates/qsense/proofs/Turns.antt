-- One turn of a run: what is left of the steps and of the answers, before and after it. Assumes nothing.
use Prim.Native.Nat.{ℕ, suc, ◌+◌, ◌*◌, ◌-◌, ◌≤◌, ◌<◌}
use mathlib.Core.Bool.{Bool}
use mathlib.Core.List.{List, [], ◌∷◌, ◌++◌, append-nil, append_assoc}
use mathlib.Core.Path.{◌≡◌, refl, sym, ap, ◌∙◌}
use native.Mathlib.Numerals.{add-one}
use native.Mathlib.Omega.{arith}
use native.Mathlib.Nat.{add-zero}
use lib.ListN.{length, set, take, drop, length-set}
use lib.Seq.{take_all, drop-drop, get_or-take, get_or-drop}
use Rattle.std.specs.Prelude.{Result}
use Rattle.refusals.specs.declared.Refusal.{Refusal}
use Rattle.answers.specs.declared.Answer.{Answer}
use Rattle.answers.specs.Values.{answer_of}
use Rattle.lists.proofs.RowParts.{take-sets}
use Rattle.model.specs.State.{Step}
use Rattle.layout.specs.Shape.{word, step_width, answer_width}
use Rattle.layout.specs.Words.{well_formed}
use Rattle.qsense.specs.Calls.{Reply, step_words, run_words}
use Rattle.qsense.specs.Values.{answer_reply, Stepped}
use Rattle.qsense.specs.Runs.{steps_in, answers_of, step_in, Taken, RunOn}

-- the steps from the i-th to the last of n
abbrev pub left : ℕ → List ℕ → ℕ → List Step
left n steps i = steps_in (n - i) (drop (step_width * i) steps)

-- after i of n steps: the words ws and the answers rs are on the way to what the whole list leaves
pub record Going (b : Bool) (n i : ℕ) (steps ws₀ rs₀ ws rs : List ℕ) : Type 0 where
  pub good : b ≡ well_formed ws
  pub words : run_words ws (left n steps i) ≡ run_words ws₀ (steps_in n steps)
  pub answers : take (answer_width * i) rs ++ answers_of ws (left n steps i) ≡ answers_of ws₀ (steps_in n steps)
  pub long : length rs ≡ length rs₀

-- word j of a row that starts at `at`
word_in : (steps : List ℕ) (at j : ℕ) → j < step_width → word (take step_width (drop at steps)) j ≡ word steps (at + j)
word_in steps at j h = get_or-take step_width (drop at steps) j 0 h ∙ get_or-drop at steps j 0

step_is : (steps : List ℕ) (i : ℕ) → step_in (take step_width (drop (step_width * i) steps)) 0 ≡ step_in steps i
step_is steps i = λ t. record {
  kind = word_in steps (step_width * i) 0 (omega arith) t;
  process = word_in steps (step_width * i) 1 (omega arith) t;
  hazard = word_in steps (step_width * i) 2 (omega arith) t;
  node = word_in steps (step_width * i) 3 (omega arith) t;
  guest = word_in steps (step_width * i) 4 (omega arith) t;
}

left-next : (n i : ℕ) (steps : List ℕ) → i < n → left n steps i ≡ step_in steps i ∷ left n steps (i + 1)
left-next n i steps h =
    let e : n - i ≡ suc (n - (i + 1)) = omega arith in
    let f : step_width * i + step_width ≡ step_width * (i + 1) = omega arith in
    rw (e, drop-drop, f, step_is)

-- of a step that is taken, the i-th answer by its two numbers
pub taken : (b : Bool) (s : Step) (i : ℕ) (ws rs : List ℕ) {r : Result ℕ Refusal} {a : Answer} {ws' : List ℕ} → a ≡ answer_of r
    → Stepped b s ws r ws' → Taken b s i ws rs ws' (set (set rs (answer_width * i + 0) a.refusal) (answer_width * i + 1) a.value)
taken b s i ws rs {a = a} {ws' = ws'} e h =
    let x : answer_reply a ws' ≡ step_words ws s = ap (λ (y : Answer). answer_reply y ws') e ∙ h.reply in
    record {
      words = ap (λ (y : Reply). y.words) x;
      answers = λ t. set (set rs (add-zero (answer_width * i) t) (x t).refusal) (add-one (answer_width * i) t) (x t).value;
      good = h.good;
    }

pub going_start : (b : Bool) (n : ℕ) (steps ws rs : List ℕ) → b ≡ well_formed ws → Going b n 0 steps ws rs ws rs
going_start b n steps ws rs e =
    let all : n - 0 ≡ n = omega arith in
    record {
      good = e;
      words = ap (λ (k : ℕ). run_words ws (steps_in k steps)) all;
      answers = ap (λ (k : ℕ). answers_of ws (steps_in k steps)) all;
      long = refl;
    }

pub going_on : (b : Bool) (n i : ℕ) (steps ws₀ rs₀ ws rs ws' rs' : List ℕ) → i < n → answer_width * n ≤ length rs₀
    → Going b n i steps ws₀ rs₀ ws rs → Taken b (step_in steps i) i ws rs ws' rs' → Going b n (i + 1) steps ws₀ rs₀ ws' rs'
going_on b n i steps ws₀ rs₀ ws rs ws' rs' h l g t =
    let s = step_in steps i in
    let r = step_words ws s in
    let next = left-next n i steps h in
    let front : take (answer_width * (i + 1)) rs' ≡ take (answer_width * i) rs ++ (r.refusal ∷ r.value ∷ []) =
    ap (λ (x : List ℕ). take (answer_width * (i + 1)) x) t.answers
    ∙ take-sets (r.refusal ∷ r.value ∷ []) rs (answer_width * i) (answer_width * (i + 1)) (omega arith) (omega (arith, g.long)) in
    record {
      good = t.good;
      words = ap (λ (w : List ℕ). run_words w (left n steps (i + 1))) t.words
          ∙ sym (ap (λ (ss : List Step). run_words ws ss) next) ∙ g.words;
      answers = ap (λ (x : List ℕ). x ++ answers_of ws' (left n steps (i + 1))) front
          ∙ ap (λ (w : List ℕ). take (answer_width * i) rs ++ (r.refusal ∷ r.value ∷ []) ++ answers_of w (left n steps (i + 1))) t.words
          ∙ append_assoc (take (answer_width * i) rs) (r.refusal ∷ r.value ∷ []) (answers_of r.words (left n steps (i + 1)))
          ∙ sym (ap (λ (ss : List Step). take (answer_width * i) rs ++ answers_of ws ss) next) ∙ g.answers;
      long = rw t.answers (simp length-set g.long);
    }

pub going_end : (b : Bool) (n i : ℕ) (steps ws₀ rs₀ ws rs : List ℕ) → i ≡ n → length rs₀ ≡ answer_width * n → Going b n i steps ws₀ rs₀ ws rs
    → RunOn n ws₀ steps ws rs
going_end b n i steps ws₀ rs₀ ws rs e l g =
    let over : n - i ≡ 0 = omega arith in
    let none : left n steps i ≡ [] = ap (λ (k : ℕ). steps_in k (drop (step_width * i) steps)) over in (
      sym (ap (λ (ss : List Step). run_words ws ss) none) ∙ g.words,
      sym (take_all (answer_width * i) rs (omega (arith, g.long))) ∙ sym (append-nil (take (answer_width * i) rs))
          ∙ sym (ap (λ (ss : List Step). take (answer_width * i) rs ++ answers_of ws ss) none) ∙ g.answers,
    )
