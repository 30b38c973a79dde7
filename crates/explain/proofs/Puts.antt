-- Texts put into a buffer that are no longer than the most, and a line at the start. Assumes nothing.
use Prim.Native.Nat.{ℕ, ◌+◌, ◌≤◌}
use mathlib.Core.List.{List, [], ◌++◌}
use mathlib.Core.Logic.{◌≢◌}
use mathlib.Core.Path.{◌≡◌, refl, subst, ◌∙◌}
use native.Mathlib.Omega.{arith}
use lib.ListN.{length}
use borrow.Author.Tests.{ne_eqb}
use Rattle.model.specs.Why.{Explained}
use Rattle.text.specs.Text.{bytes, Put}
use Rattle.text.proofs.Digits.{put_then, put-take}
use Rattle.explain.specs.Sentence.{ticks_text, sentence, most_line, PutUpto, Said}

pub exactly : {page us page₁ : List ℕ} {at m at₁ : ℕ} → Put page at us m page₁ at₁ → PutUpto m page at us page₁ at₁
exactly p =
    record {
      put = record { bytes = p.bytes; long = refl; ends = omega (arith, p.ends, p.long) };
      few = omega (arith, p.long);
    }

module _ {page us page₁ : List ℕ} {at m at₁ : ℕ} (p : PutUpto m page at us page₁ at₁) where
  -- one text after another
  pub further : {vs page₂ : List ℕ} {n at₂ : ℕ} → PutUpto n page₁ at₁ vs page₂ at₂ → PutUpto (m + n) page at (us ++ vs) page₂ at₂
  further q =
      let both = exactly (put_then _ _ _ _ _ _ _ _ _ _ p.put q.put) in
      record { put = both.put; few = omega (arith, both.few, p.few, q.few) }

  -- it is the text that is to be put
  pub as-text : {most : ℕ} {text : List ℕ} → us ≡ text → m ≤ most → PutUpto most page at text page₁ at₁
  as-text {most} e h = subst (λ t. PutUpto most page at t page₁ at₁) e (record { put = p.put; few = omega (arith, p.few) })

pub nothing : (page : List ℕ) (at : ℕ) → Put page at [] 0 page at
nothing page at = record { bytes = refl; long = refl; ends = omega arith }

pub several : (t : ℕ) → t ≢ 1 → bytes "ticks" ≡ ticks_text t
several t h = rw (ne_eqb t 1 h)

-- a text at the start of a buffer that has room for it
pub said : {page us page' : List ℕ} {m n c : ℕ} {e : Explained} → PutUpto m page 0 us page' n → m ≤ most_line → most_line ≤ length page
    → us ≡ sentence c e → Said c e page' n
said {page} {us} {page'} {m} {n} p h k q =
    record {
      text = put-take page 0 us (length us) page' n p.put (omega (arith, p.few)) ∙ q;
      room = omega (arith, p.few, p.put.ends);
    }
