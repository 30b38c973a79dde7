-- Each answer of the rules where the code gives it. Assumes nothing.
use Prim.Native.Nat.{ℕ, suc, ◌<◌, ◌≤◌}
use mathlib.Core.Bool.{true, false}
use mathlib.Core.List.{List}
use mathlib.Core.Path.{◌≡◌, sym, ap, ◌∙◌}
use mathlib.Core.Logic.{◌≢◌}
use native.Mathlib.Omega.{arith}
use borrow.Author.Tests.{eq-eqb, ne_eqb, lt-ltb, le-ltb, not-true, not-false}
use lib.ListN.{length}
use native.Mathlib.Nat.{zero-add}
use Rattle.std.specs.Option.{is_some}
use Rattle.lists.proofs.First.{first-at}
use Rattle.domain.specs.Found.{hazard_below}
use Rattle.domain.proofs.ReadParams.{processes-length}
use Rattle.retire.proofs.Seen.{shows_first}
use Rattle.lists.specs.Tests.{lacks}
use Rattle.model.specs.Params.{delay}
use Rattle.model.specs.State.{Node, Domain, Fast, Retired, no_process}
use Rattle.model.specs.Retire.{visible_to, age_of}
use Rattle.model.specs.Why.{Reason, Visible, Ready, NotAsked, Nobody, Lagging}
use Rattle.model.specs.Why.{shows, showing_process, showing_hazard, seen_by, ticks_left, reason_of, laggard, behind_in}
use Rattle.model.proofs.Why.{shown-found}
use Rattle.layout.specs.Encode.{decode, params_in}
use Rattle.layout.specs.Sound.{Sound}

-- ---- what the owner sees

module _ (d : Domain) (p v : ℕ) where
  pub seen_at : {q h : ℕ} → q ≡ showing_process d p v → h ≡ showing_hazard d p v q → q < length d.processes → Visible q h ≡ seen_by d p v
  seen_at {q} e f l =
      let shown : lacks (visible_to d p) v ≡ false = not-true _ (sym (shown-found d p v) ∙ lt-ltb _ _ (rw e at l)) in
      (λ t. Visible (e t) ((f ∙ ap (showing_hazard d p v) e) t)) ∙ rw shown

  pub seen-nowhere : {q : ℕ} → q ≡ showing_process d p v → length d.processes ≤ q → Ready ≡ seen_by d p v
  seen-nowhere {q} e l =
      let hidden : lacks (visible_to d p) v ≡ true = not-false _ (sym (shown-found d p v) ∙ le-ltb _ _ (rw e at l)) in
      rw hidden

-- the first process that shows it has a hazard that does
pub shown-by : {ws : List ℕ} → Sound ws → (p v q : ℕ) → q ≡ showing_process (decode ws) p v → q < (params_in ws).processes
    → is_some (hazard_below (params_in ws).hazards (showing_hazard (decode ws) p v q)) ≡ true
shown-by {ws} s p v q e l =
    let many : q < length (decode ws).processes = omega (arith, l, processes-length s) in
    shows_first s p v q l
    ∙ (rw (zero-add q) at (first-at (shows p v) 0 (decode ws).processes q no_process (sym e ∙ sym (zero-add q)) many))

-- ---- the four answers

module _ (d : Domain) (c : ℕ) (n : Node) where
  pub old : {r : Reason} → r ≡ seen_by d n.owner (suc c) → n.state ≡ Retired → ticks_left d n ≤ 0 → r ≡ reason_of d c n
  old e h l = e ∙ rw (eq-eqb _ _ h, lt-ltb (delay d.params) (age_of d n) (omega arith))

-- ---- who is behind

module _ (d : Domain) where
  pub not-asked : d.path ≢ Fast → NotAsked ≡ behind_in d
  not-asked h = rw (ne_eqb _ _ h)

  pub lagging : {q : ℕ} → d.path ≡ Fast → q ≡ laggard d → q < length d.processes → Lagging q ≡ behind_in d
  lagging {q} h e l = ap Lagging e ∙ rw (eq-eqb _ _ h, lt-ltb (laggard d) (length d.processes) (rw e at l))

  pub nobody : {q : ℕ} → d.path ≡ Fast → q ≡ laggard d → length d.processes ≤ q → Nobody ≡ behind_in d
  nobody {q} h e l = rw (eq-eqb _ _ h, le-ltb (laggard d) (length d.processes) (rw e at l))
