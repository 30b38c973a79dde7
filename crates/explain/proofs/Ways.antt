-- The ways of an answer: too many bytes, a step book that opens or does not, a domain's words or no words at all. Assumes nothing.
use Prim.Native.Nat.{ℕ, ◌-◌, ◌/◌, ◌%◌, ◌<◌, ◌≤◌}
use mathlib.Core.Bool.{Bool, true, false, not, ◌&&◌, ◌||◌, cond, false≢true}
use mathlib.Core.List.{List}
use mathlib.Core.Path.{◌≡◌, refl, sym, ap, subst, ◌∙◌}
use native.Mathlib.Omega.{arith}
use lib.ListN.{length}
use lib.Dec.{ltb, eqb}
use borrow.Author.Tests.{lt-ltb, le-ltb, lt-leb, le-leb, ltb-true, ltb-false}
use Rattle.model.specs.State.{Domain}
use Rattle.model.specs.Why.{Explained, Refused, explained}
use Rattle.layout.specs.Ranges.{most_words}
use Rattle.trace.specs.Bytes.{mark_at}
use Rattle.trace.specs.Trace.{refused, given, Front, front_of, Trace, trace_of}
use Rattle.trace.specs.Claims.{led_from, trace_from}
use Rattle.trace.proofs.Theorems.{front-leads}
use Rattle.replay.specs.Turn.{end_of}
use Rattle.qsense.specs.Calls.{why_words}
use Rattle.explain.specs.Input.{marked, words_in, in_book, in_words, explained_in}
use Rattle.explain.specs.Sentence.{Said}
use Rattle.explain.specs.Explains.{Says}
use Rattle.explain.proofs.WordsOf.{words-many, too_many}

-- ---- the mark

pub unmarked : (bs : List ℕ) → length bs < 4 → false ≡ marked bs
unmarked bs h = sym (ap (λ (b : Bool). b && mark_at bs (length bs - 4)) (lt-leb 4 (length bs) h))

pub mark-is : (bs : List ℕ) → 4 ≤ length bs → mark_at bs (length bs - 4) ≡ marked bs
mark-is bs h = sym (ap (λ (b : Bool). b && mark_at bs (length bs - 4)) (le-leb 4 (length bs) h))

-- ---- the domain that a book's steps have come to

pub at-end : (c : ℕ) (d : Domain) (t : Trace) (e : Explained) → e ≡ explained d c → d ≡ end_of t → e ≡ explained (end_of t) c
at-end c d t e h same = h ∙ ap (λ (x : Domain). explained x c) same

module _ (c : ℕ) (bs : List ℕ) where
  -- ---- a step book

  pub in-found : (f : Front) → front_of bs ≡ given f → explained (end_of (led_from bs f)) c ≡ in_book c (trace_of bs)
  in-found f opened = sym (ap (in_book c) (front-leads bs ∙ ap (trace_from bs) opened))

  pub in-refused : (n : ℕ) → refused n ≡ front_of bs → Refused n ≡ in_book c (trace_of bs)
  in-refused n e = sym (ap (in_book c) (front-leads bs ∙ ap (trace_from bs) (sym e)))

  -- ---- a domain's words

  -- bytes are left over, or there are too many words
  abbrev none : Bool → Bool
  none whole = not whole || ltb most_words (length bs / 4)

  whole-or-not : (b : Bool) → none b ≡ true → Refused 3 ≡ cond b (why_words (words_in bs) c) (Refused 3)
  whole-or-not true h =
      let many : most_words < length bs / 4 = ltb-true _ _ h in
      sym (too_many (words_in bs) c (omega (arith, words-many bs 0 (length bs / 4), many)))
  whole-or-not false h = refl

  pub no_words : none (eqb (length bs % 4) 0) ≡ true → Refused 3 ≡ in_words c bs
  no_words = whole-or-not (eqb (length bs % 4) 0)

  by_whole : (b : Bool) → none b ≡ false
      → (length bs / 4 ≤ most_words) × (why_words (words_in bs) c ≡ cond b (why_words (words_in bs) c) (Refused 3))
  by_whole true h = (ltb-false _ _ h, refl)
  by_whole false h = absurd (false≢true (sym h))

  pub whole_words : none (eqb (length bs % 4) 0) ≡ false → (length bs / 4 ≤ most_words) × (why_words (words_in bs) c ≡ in_words c bs)
  whole_words = by_whole (eqb (length bs % 4) 0)

  -- ---- any bytes

  pub too_long : 65536 < length bs → Refused 18 ≡ explained_in c bs
  unfolding explained_in
  too_long h =
      let long = lt-ltb 65536 (length bs) h in
      sym (λ t. cond (long t) (Refused 18) (cond (marked bs) (in_book c (trace_of bs)) (in_words c bs)))

  -- m is what the mark says
  module _ (m : Bool) (mark : m ≡ marked bs) (h : length bs ≤ 65536) where
    told : (b : Bool) → m ≡ b → cond b (in_book c (trace_of bs)) (in_words c bs) ≡ explained_in c bs
    unfolding explained_in
    told b e =
        let short = le-ltb 65536 (length bs) h in
        let way = sym mark ∙ e in
        sym (λ t. cond (short t) (Refused 18) (cond (way t) (in_book c (trace_of bs)) (in_words c bs)))

    pub in_book_lem : m ≡ true → in_book c (trace_of bs) ≡ explained_in c bs
    in_book_lem = told true

    pub in_words_lem : m ≡ false → in_words c bs ≡ explained_in c bs
    in_words_lem = told false

  -- ---- the line of an answer

  pub says : (e : Explained) (out' : List ℕ) (n : ℕ) → e ≡ explained_in c bs → Said c e out' n → Says c bs out' n
  says e out' n same s = subst (λ (x : Explained). Said c x out' n) same s
