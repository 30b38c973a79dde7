-- A scan in portions: the call is the step, what a portion says is exact, and portions from node 0 to the end are one whole scan.
-- Assumes nothing.
use Prim.Native.Nat.{ℕ, ◌+◌, ◌-◌, ◌<◌, ◌≤◌}
use mathlib.Core.Bool.{Bool, true, false, false≢true}
use mathlib.Core.Logic.{◌≢◌}
use mathlib.Core.List.{List, [], ◌∷◌}
use mathlib.Core.Path.{◌≡◌, refl, sym, ◌∙◌, ap, subst}
use native.Mathlib.Omega.{arith}
use borrow.Author.Tests.{eqb-true, eqb-false, leb-true, ltb-true, ltb-false}
use lib.ListN.{length, take, length-drop}
use lib.Seq.{get_or-drop, take_all}
use lib.Dec.{leb, ltb, eqb}
use Rattle.lists.specs.Tests.{All, count}
use Rattle.lists.proofs.Bools.{by_cond, both, through-cond}
use Rattle.lists.proofs.Sweeps.{sweep-length}
use Rattle.lists.proofs.Past.{past-high, past-on, past-most, past_all, past-last}
use Rattle.lists.proofs.Between.{sweep-joined, count-joined, count_past, sweep-past, count-beyond}
use Rattle.lists.proofs.Between.{count-between}
use Rattle.model.specs.State.{Node, Domain, free_node, node_of, process_of, with_nodes}
use Rattle.model.specs.Kinds.{row_of, Portion}
use Rattle.model.specs.Retire.{retired_by, due, partial_scan}
use Rattle.model.specs.Portion.{limit_in_range, nodes_from, end_of, portion}
use Rattle.model.specs.Questions.{refusal_of}
use Rattle.model.specs.Machine.{PortionAnswer, portion_step, portioned, taken, declined, step}
use Rattle.model.specs.Claims.{step_of_portion, PortionIsStep, retired_within, ExactPortion, PortionIsExact}
use Rattle.model.specs.Claims.{InPortions, freeing_more, portions, PortionsAreScan, PortionsEnd}
use Rattle.model.proofs.Walk.{Asked, asked, not-refused, state-met}

pub portion-is-step : PortionIsStep
unfolding step portioned
portion-is-step d p a l =
    through-cond step_of_portion (eqb (refusal_of Portion d (portion_step p a l)) 0) (taken (portion d p a l)) (declined (refusal_of Portion d (portion_step p a l)) d)

-- ---- one portion

-- the count from one node up to another, and that from one node on
retired-between : (d : Domain) (p a b : ℕ) → a ≤ b → count (retired_by p) (take (b - a) (nodes_from d a)) ≡ retired_within d p a b
retired-between d p a b h = sym (count-between (retired_by p) a b d.nodes h)

module _ (d : Domain) (p a l : ℕ) (full : length d.nodes ≡ d.params.nodes) (ha : a < d.params.nodes) (hl : 1 ≤ l) where
  abbrev rest : List Node
  rest = nodes_from d a

  abbrev b : ℕ
  b = end_of d p a l

  rest-length : length rest ≡ d.params.nodes - a
  rest-length = length-drop a d.nodes ∙ ap (λ n. n - a) full

  on : a < b
  on = past-on (retired_by p) l a rest hl (omega (arith, rest-length))

  high : b ≤ d.params.nodes
  high = omega (arith, past-high (retired_by p) l a rest, rest-length)

  last : count (retired_by p) (take (b - a) rest) ≡ l → retired_by p (node_of d (b - 1)) ≡ true
  last e =
      let at : a + (b - a - 1) ≡ b - 1 = omega (arith, on) in
      rw (sym (get_or-drop a d.nodes (b - a - 1) free_node ∙ ap (λ c. node_of d c) at)) (past-last (retired_by p) l a rest free_node hl e)

  left : count (retired_by p) (nodes_from d b) ≡ retired_within d p b d.params.nodes
  left =
      let long : length (nodes_from d b) ≤ d.params.nodes - b = omega (arith, length-drop b d.nodes, full) in
      sym (ap (count (retired_by p)) (take_all (d.params.nodes - b) (nodes_from d b) long)) ∙ retired-between d p b d.params.nodes high

  exact : ExactPortion d p a l (portion d p a l)
  exact =
      record {
        goes_on = on;
        inside = high;
        examined = retired-between d p a b (omega (arith, on));
        most = past-most (retired_by p) l a rest;
        fewer = λ h. omega (arith, past_all (retired_by p) l a rest h, rest-length);
        last = last;
        left = left;
        still = left ∙ sym (count-beyond free_node (λ _ n. retired_by p n) (due d p) a b d.params.nodes 0 d.nodes);
      }

pub portion-is-exact : PortionIsExact
portion-is-exact d p a l w ha hl = exact d p a l w.node_count ha hl

-- ---- an accepted call

-- it is a portion, and it was asked 7 and 23
pub record Taken (d : Domain) (p a l : ℕ) (x : PortionAnswer) : Type 0 where
  pub portion' : x ≡ taken (portion d p a l)
  pub start : a < d.params.nodes
  pub some' : 1 ≤ l

some-limit : (l : ℕ) → limit_in_range l ≡ true → 1 ≤ l
some-limit l h = leb-true 1 l (both (leb 1 l) _ h).0

pub call-taken : (d : Domain) (p a l : ℕ) → (portioned d p a l).refusal ≡ 0 → Taken d p a l (portioned d p a l)
unfolding portioned
call-taken d p a l =
    by_cond (λ x. x.refusal ≡ 0 → Taken d p a l x) (eqb (refusal_of Portion d (portion_step p a l)) 0)
    (λ e _. let f = asked Portion d (portion_step p a l) (eqb-true _ 0 e) in
    record { portion' = refl; start = f.node refl; some' = some-limit l (f.limit refl) })
    (λ e h. absurd (eqb-false _ 0 e h))

-- one by a process that is there, from a node that is, with a limit in range
call-accepted : (d : Domain) (p a l : ℕ) → p < d.params.processes → (process_of d p).present ≡ 1 → a < d.params.nodes
    → limit_in_range l ≡ true → (portioned d p a l).refusal ≡ 0
unfolding portioned
call-accepted d p a l hp ht ha hl = rw (not-refused Portion d (portion_step p a l) willing)
  where
    none : {A : Type 0} → false ≡ true → A
    none e = absurd (false≢true e)

    willing : Asked Portion d (portion_step p a l)
    willing =
        record {
          known = refl;
          process = λ _. hp;
          present = λ _. ht;
          unburdened' = none;
          takes_over' = none;
          hazard = none;
          node = λ _. ha;
          limit = λ _. hl;
          state = λ n e. state-met (row_of Portion).needs n _ refl e;
          owner = none;
          assigned = none;
          reachable = none;
          validated = none;
          room = none;
          some' = none;
          clock = none;
          young' = none;
          unassigned' = none;
        }

-- ---- portions in a row

module _ (d : Domain) (p : ℕ) (full : length d.nodes ≡ d.params.nodes) where
  -- the nodes up to b scanned: how many are freed, and the domain then
  abbrev freed_to : ℕ → ℕ
  freed_to b = (partial_scan d p 0 b).value

  abbrev up_to : ℕ → Domain
  up_to b = (partial_scan d p 0 b).after

  long : (a : ℕ) → length (up_to a).nodes ≡ d.params.nodes
  long a = sweep-length free_node _ 0 d.nodes ∙ full

  -- two scans that meet are one
  joined : (a b : ℕ) → a ≤ b → (partial_scan (up_to a) p a b).after ≡ up_to b
  joined a b h = ap (with_nodes d) (sweep-joined free_node (due d p) a b h 0 d.nodes)

  added : (a b : ℕ) → a ≤ b → freed_to a + (partial_scan (up_to a) p a b).value ≡ freed_to b
  added a b h = count-joined free_node (due d p) a b h 0 d.nodes

  -- what holds of portions from node a on, the nodes before it scanned
  record Meets (a : ℕ) (x : InPortions) : Type 0 where
    freed : freed_to a + x.freed ≡ freed_to x.next
    after : x.after ≡ up_to x.next

  -- one portion more
  module _ (ls : List ℕ) (a l : ℕ) where
    abbrev stop : ℕ
    stop = end_of (up_to a) p a l

    abbrev call : PortionAnswer
    call = portioned (up_to a) p a l

    first : Taken (up_to a) p a l call → ExactPortion (up_to a) p a l (portion (up_to a) p a l)
    first t = exact (up_to a) p a l (long a) t.start t.some'

    -- where it ends, and the domain after it
    ended : Taken (up_to a) p a l call → call.next ≡ stop
    ended t = ap (λ x. x.next) t.portion'

    scanned : Taken (up_to a) p a l call → call.after ≡ up_to stop
    scanned t = ap (λ x. x.after) t.portion' ∙ joined a stop (omega (arith, (first t).goes_on))

    one_more : Taken (up_to a) p a l call → Meets stop (portions (up_to stop) p stop ls)
        → Meets a (freeing_more call.freed (portions call.after p call.next ls))
    one_more t m =
        let r = subst (λ (e : Domain). Meets stop (portions e p call.next ls)) (sym (scanned t))
        (subst (λ (n : ℕ). Meets stop (portions (up_to stop) p n ls)) (sym (ended t)) m) in
        record {
          freed = omega (arith, added a stop (omega (arith, (first t).goes_on)), r.freed, ap (λ x. x.freed) t.portion');
          after = r.after;
        }

  meets : (ls : List ℕ) (a : ℕ) → Meets a (portions (up_to a) p a ls)
  meets [] a = record { freed = omega arith; after = refl }
  meets (l ∷ ls) a =
      by_cond (Meets a) (eqb (portioned (up_to a) p a l).refusal 0)
      (λ e. one_more ls a l (call-taken (up_to a) p a l (eqb-true _ 0 e)) (meets ls (end_of (up_to a) p a l)))
      (λ _. record { freed = omega arith; after = refl })

  ends : p < d.params.processes → (process_of d p).present ≡ 1 → (ls : List ℕ) (a : ℕ) → a ≤ d.params.nodes
      → All (λ l. limit_in_range l ≡ true) ls → d.params.nodes ≤ a + length ls → (portions (up_to a) p a ls).next ≡ d.params.nodes
  ends hp ht [] a h ok m = omega arith
  ends hp ht (l ∷ ls) a h ok m =
      by_cond (λ (x : InPortions). x.next ≡ d.params.nodes) (eqb (portioned (up_to a) p a l).refusal 0)
      (λ e. go (call-taken (up_to a) p a l (eqb-true _ 0 e)) (λ n hb mb. ends hp ht ls n hb ok.1 mb))
      (λ e. over (eqb-false _ 0 e))
    where
      over : (portioned (up_to a) p a l).refusal ≢ 0 → a ≡ d.params.nodes
      over no' = by (ltb a d.params.nodes) refl
        where
          by : (y : Bool) → ltb a d.params.nodes ≡ y → a ≡ d.params.nodes
          by true e = absurd (no' (call-accepted (up_to a) p a l hp ht (ltb-true a d.params.nodes e) ok.0))
          by false e = omega (arith, ltb-false a d.params.nodes e)

      go : Taken (up_to a) p a l (call ls a l)
          → ((n : ℕ) → n ≤ d.params.nodes → d.params.nodes ≤ n + length ls → (portions (up_to n) p n ls).next ≡ d.params.nodes)
          → (portions (call ls a l).after p (call ls a l).next ls).next ≡ d.params.nodes
      go t f =
          let x = first ls a l t in
          rw (scanned ls a l t, ended ls a l t) (f (stop ls a l) x.inside (omega (arith, x.goes_on)))

  -- from node 0
  start : up_to 0 ≡ d
  start = ap (with_nodes d) (sweep-past (due d p) 0 0 free_node 0 d.nodes (omega arith))

  none-freed : freed_to 0 ≡ 0
  none-freed = count_past (due d p) 0 0 0 d.nodes (omega arith)

pub portions-are-scan : PortionsAreScan
portions-are-scan d p ls w e =
    let full = w.node_count in
    let m = subst (λ (x : Domain). Meets d p full 0 (portions x p 0 ls)) (start d p full) (meets d p full ls 0) in
    record {
      freed = omega (arith, m.freed, none-freed d p full, ap (λ b. (partial_scan d p 0 b).value) e);
      after = m.after ∙ ap (λ b. (partial_scan d p 0 b).after) e;
    }

pub portions-end : PortionsEnd
portions-end d p ls w hp ht ok h =
    let full = w.node_count in
    subst (λ (x : Domain). (portions x p 0 ls).next ≡ d.params.nodes) (start d p full) (ends d p full hp ht ls 0 (omega arith) ok (omega arith))
