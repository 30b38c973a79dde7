-- The steps of a trace in turn: what is left of them and, in a replay, of their lines, before and after one. Assumes nothing.
use Prim.Native.Nat.{ℕ, suc, ◌+◌, ◌*◌, ◌-◌, ◌≤◌, ◌<◌}
use mathlib.Core.List.{List, [], ◌∷◌, ◌++◌, append-nil, append_assoc}
use mathlib.Core.Path.{◌≡◌, sym, ap, ◌∙◌}
use native.Mathlib.Omega.{arith}
use lib.ListN.{take}
use Rattle.model.specs.State.{Domain, Step}
use Rattle.model.specs.Machine.{step, run}
use Rattle.model.specs.Claims.{reachable_count}
use Rattle.layout.specs.Encode.{decode}
use Rattle.layout.specs.Sound.{Sound}
use Rattle.trace.specs.Bytes.{step_at, steps_from}
use Rattle.trace.proofs.InTurn.{steps-many}
use Rattle.replay.specs.Lines.{step_line, step_lines}
use Rattle.replay.specs.Turn.{Counted, Taken, Ran}

-- the steps from the i-th to the last of n
abbrev pub left : List ℕ → ℕ → ℕ → ℕ → List Step
left bs first n i = steps_from bs (first + 12 * i) (n - i)

-- after i of n steps: the words ws are on the way to what all of them leave
pub record Towards (n i first : ℕ) (bs ws₀ ws : List ℕ) : Type 0 where
  pub sound : Sound ws
  pub domain : run (decode ws) (left bs first n i) ≡ run (decode ws₀) (steps_from bs first n)

-- and so is the buffer out: the next line goes to at, and r is the reachable count
pub record Going (n i first start : ℕ) (bs ws₀ out₀ ws out : List ℕ) (at r : ℕ) : Type 0 where
  pub words : Towards n i first bs ws₀ ws
  pub count : r ≡ reachable_count (decode ws)
  pub text : take at out ++ step_lines i (decode ws) (left bs first n i)
      ≡ take start out₀ ++ step_lines 0 (decode ws₀) (steps_from bs first n)
  pub room : at ≤ start + 27 * i

-- ---- none taken

all_left : (bs : List ℕ) (first n : ℕ) → left bs first n 0 ≡ steps_from bs first n
all_left bs first n =
    let all : n - 0 ≡ n = omega arith in
    let at : first + 12 * 0 ≡ first = omega arith in
    λ t. steps_from bs (at t) (all t)

pub towards-start : (n first : ℕ) (bs ws : List ℕ) → Sound ws → Towards n 0 first bs ws ws
towards-start n first bs ws s = record { sound = s; domain = ap (run (decode ws)) (all_left bs first n) }

pub going_start : (n first start : ℕ) (bs ws out : List ℕ) (r : ℕ) → Counted ws r
    → Going n 0 first start bs ws out ws out start r
going_start n first start bs ws out r c =
    record {
      words = towards-start n first bs ws c.0;
      count = c.1;
      text = ap (λ (ss : List Step). take start out ++ step_lines 0 (decode ws) ss) (all_left bs first n);
      room = omega arith;
    }

-- ---- one more

left-next : (bs : List ℕ) (first n i : ℕ) → i < n
    → left bs first n i ≡ step_at bs (first + 12 * i) ∷ left bs first n (i + 1)
unfolding steps_from
left-next bs first n i h =
    let e : n - i ≡ suc (n - (i + 1)) = omega arith in
    let f : first + 12 * i + 12 ≡ first + 12 * (i + 1) = omega arith in
    ap (λ (k : ℕ). steps_from bs (first + 12 * i) k) e
    ∙ ap (λ (at : ℕ). step_at bs (first + 12 * i) ∷ steps_from bs at (n - (i + 1))) f

-- s, which is the next step, is taken on ws
module _ (n i first : ℕ) (bs ws₀ ws : List ℕ) (s : Step) (h : i < n) (e : s ≡ step_at bs (first + 12 * i)) where
  next : left bs first n i ≡ s ∷ left bs first n (i + 1)
  next = left-next bs first n i h ∙ ap (λ (x : Step). x ∷ left bs first n (i + 1)) (sym e)

  pub towards-on : (ws' : List ℕ) → Towards n i first bs ws₀ ws → Sound ws' → decode ws' ≡ (step (decode ws) s).after
      → Towards n (i + 1) first bs ws₀ ws'
  towards-on ws' g sound domain =
      record {
        sound = sound;
        domain = ap (λ (x : Domain). run x (left bs first n (i + 1))) domain ∙ sym (ap (run (decode ws)) next) ∙ g.domain;
      }

  pub going_on : (start at r : ℕ) (out₀ out ws' out' : List ℕ) (at' r' : ℕ) → Going n i first start bs ws₀ out₀ ws out at r
      → Taken s i at ws out ws' out' (record { at = at'; reachable = r' })
      → Going n (i + 1) first start bs ws₀ out₀ ws' out' at' r'
  unfolding step_lines
  going_on start at r out₀ out ws' out' at' r' g t =
      let d : Domain = decode ws in
      let rest = left bs first n (i + 1) in
      record {
        words = towards-on ws' g.words t.counted.0 t.domain;
        count = t.counted.1;
        text = (λ j. t.text j ++ step_lines (i + 1) (t.domain j) rest)
            ∙ append_assoc (take at out) (step_line i d s) (step_lines (i + 1) (step d s).after rest)
            ∙ sym (ap (λ (ss : List Step). take at out ++ step_lines i d ss) next)
            ∙ g.text;
        room = omega (arith, t.room, g.room);
      }

-- ---- all taken

none_left : (bs : List ℕ) (first n i : ℕ) → i ≡ n → left bs first n i ≡ []
unfolding steps_from
none_left bs first n i e = let over : n - i ≡ 0 = omega arith in ap (λ (k : ℕ). steps_from bs (first + 12 * i) k) over

pub towards-end : (n i first : ℕ) (bs ws₀ ws : List ℕ) → i ≡ n → Towards n i first bs ws₀ ws
    → Sound ws × (decode ws ≡ run (decode ws₀) (steps_from bs first n))
towards-end n i first bs ws₀ ws e g = (g.sound, sym (ap (run (decode ws)) (none_left bs first n i e)) ∙ g.domain)

pub going_end : (n i first start : ℕ) (bs ws₀ out₀ ws out : List ℕ) (at r : ℕ) → i ≡ n
    → Going n i first start bs ws₀ out₀ ws out at r
    → Ran (steps_from bs first n) start ws₀ out₀ ws out (record { at = at; reachable = r })
unfolding step_lines
going_end n i first start bs ws₀ out₀ ws out at r e g =
    record {
      counted = (g.words.sound, g.count);
      domain = (towards-end n i first bs ws₀ ws e g.words).1;
      text = sym (append-nil (take at out))
          ∙ sym (ap (λ (ss : List Step). take at out ++ step_lines i (decode ws) ss) (none_left bs first n i e))
          ∙ g.text;
      room = omega (arith, g.room, steps-many bs first n);
    }
