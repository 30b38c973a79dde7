-- The words that bytes are: put one after another, and what is said of too many. Assumes nothing.
use Prim.Native.Nat.{ℕ, zero, suc, ◌+◌, ◌*◌, ◌/◌, ◌<◌}
use mathlib.Core.Bool.{Bool, true, false, cond}
use mathlib.Core.List.{List}
use mathlib.Core.Path.{◌≡◌, refl, sym, ap, ◌∙◌}
use native.Mathlib.Omega.{arith}
use lib.ListN.{length, get_or, set}
use lib.Seq.{ext_get_or}
use Rattle.lists.proofs.Stores.{set_cases}
use Rattle.model.specs.Why.{Refused, explained}
use Rattle.layout.specs.Encode.{decode}
use Rattle.layout.specs.Words.{well_formed}
use Rattle.layout.specs.Ranges.{most_words}
use Rattle.layout.proofs.Checked.{well-formed-sound}
use Rattle.trace.specs.Bytes.{word_at}
use Rattle.qsense.specs.Calls.{why_words}
use Rattle.explain.specs.Input.{words_from, words_in}

-- ---- so many words from i on

pub words-many : (bs : List ℕ) (i n : ℕ) → length (words_from bs i n) ≡ n
words-many bs i zero = refl
words-many bs i (suc n) = ap suc (words-many bs (i + 4) n)

words-each : (bs : List ℕ) (i n j : ℕ) → j < n → get_or (words_from bs i n) j 0 ≡ word_at bs (i + 4 * j)
words-each bs i zero j h = absurd (omega arith)
words-each bs i (suc n) zero h = let e : i ≡ i + 4 * 0 = omega arith in ap (word_at bs) e
words-each bs i (suc n) (suc j) h =
    let e : i + 4 + 4 * j ≡ i + 4 * suc j = omega arith in
    words-each bs (i + 4) n j (omega arith) ∙ ap (word_at bs) e

-- ---- put one after another

-- the first i are there
abbrev pub Filled : List ℕ → ℕ → List ℕ → Type 0
Filled bs i ws = (j : ℕ) → j < i → get_or ws j 0 ≡ word_at bs (4 * j)

pub filled_more : (bs ws : List ℕ) (i w : ℕ) → Filled bs i ws → i < length ws → w ≡ word_at bs (4 * i) → Filled bs (i + 1) (set ws i w)
filled_more bs ws i w f h e j l =
    set_cases (λ v. v ≡ word_at bs (4 * j)) ws i j w 0 h
    (λ same. e ∙ ap (λ (k : ℕ). word_at bs (4 * k)) (sym same))
    (λ other. f j (omega arith))

pub filled-all : (bs ws : List ℕ) (i : ℕ) → Filled bs i ws → i ≡ length ws → length ws ≡ length bs / 4 → ws ≡ words_in bs
filled-all bs ws i f end long =
    ext_get_or 0 ws (words_in bs) (long ∙ sym (words-many bs 0 (length bs / 4))) each
  where
    each : (j : ℕ) → j < length ws → get_or ws j 0 ≡ get_or (words_in bs) j 0
    each j h =
        let e : 4 * j ≡ 0 + 4 * j = omega arith in
        f j (omega arith) ∙ ap (word_at bs) e ∙ sym (words-each bs 0 (length bs / 4) j (omega arith))

-- ---- more words than any domain has are malformed

malformed : (ws : List ℕ) → most_words < length ws → (b : Bool) → well_formed ws ≡ b → well_formed ws ≡ false
malformed ws h true e =
    let s = (well-formed-sound ws e).sizes in absurd (omega (arith, s.long, s.rows, s.nodes.1))
malformed ws h false e = e

pub too_many : (ws : List ℕ) (c : ℕ) → most_words < length ws → why_words ws c ≡ Refused 3
unfolding why_words
too_many ws c h = ap (λ (b : Bool). cond b (explained (decode ws) c) (Refused 3)) (malformed ws h (well_formed ws) refl)
