-- A reinsert right after the accepted remove of the same process and node is accepted and gives back the domain. Assumes nothing.
use Prim.Native.Nat.{ℕ}
use mathlib.Core.Bool.{true, false, false≢true}
use mathlib.Core.Path.{◌≡◌, refl, sym, ◌∙◌, ap}
use borrow.Author.Tests.{eq-eqb}
use lib.Seq.{get_or-set_same, set-set, set-get_or}
use Rattle.model.specs.State.{Node, Domain, Step, Reachable, free_node, node_of, set_node, with_nodes}
use Rattle.model.specs.WellFormed.{WellFormed}
use Rattle.model.specs.Kinds.{row_of, Remove, Reinsert}
use Rattle.model.specs.Retire.{effect}
use Rattle.model.specs.Machine.{accepted, act, answered, step_as, step, publishing, removing}
use Rattle.model.specs.Claims.{RemoveTakenBack}
use Rattle.model.proofs.Walk.{Asked, state-met, by-step, not-refused}
use Rattle.model.proofs.WellFormed.{node_fits_lem}

-- a Reachable node, removed and put back
put_back : (p : ℕ) (n : Node) → n.state ≡ Reachable → n.owner ≡ 0 → publishing (removing p n) ≡ n
put_back p n st ow =
    λ i. record { state = sym st i; owner = sym ow i; guest = n.guest; retired_at = n.retired_at; limbo = n.limbo }

module _ (d : Domain) (s t : Step) (w : WellFormed d) (p : t.process ≡ s.process) (c : t.node ≡ s.node) (a : Asked Remove d s) where
  abbrev between : Domain
  between = (act Remove d s).after

  removed-here : node_of between t.node ≡ removing s.process (node_of d s.node)
  removed-here = rw c (get_or-set_same d.nodes s.node _ free_node (rw w.node_count (a.node refl)))

  -- a yes to each of its questions
  asked-again : Asked Reinsert between t
  asked-again =
      record {
        known = refl;
        process = λ _. rw p (a.process refl);
        present = λ _. rw p (a.present refl);
        unburdened' = none;
        takes_over' = none;
        hazard = none;
        node = λ _. rw c (a.node refl);
        limit = none;
        state = λ n e. state-met (row_of Reinsert).needs n _ (eq-eqb _ _ (ap (λ x. x.state) removed-here)) e;
        owner = λ _. ap (λ x. x.owner) removed-here ∙ sym p;
        assigned = none;
        reachable = none;
        validated = none;
        room = none;
        some' = none;
        clock = none;
        young' = none;
        unassigned' = none;
      }
    where
      none : {A : Type 0} → false ≡ true → A
      none e = absurd (false≢true e)

  -- the nodes as they were
  nodes-back : set_node between t.node (publishing (node_of between t.node)) ≡ d
  nodes-back =
      let n = node_of d s.node in
      let f = node_fits_lem w s.node (a.node refl) in
      let same = ap publishing removed-here ∙ put_back s.process n (a.state _ refl) (f.reachable (a.state _ refl)) in
      rw (same, c) (ap (with_nodes d) (set-set d.nodes s.node _ n ∙ set-get_or d.nodes s.node free_node))

  back : step_as Reinsert between t ≡ accepted (effect 0 d)
  back =
      ap (λ r. answered r between (act Reinsert between t)) (not-refused Reinsert between t asked-again)
      ∙ ap (λ e. accepted (effect 0 e)) nodes-back

pub remove-taken-back : RemoveTakenBack
unfolding step
remove-taken-back d s t w b =
    rw (b.remove, b.reinsert)
    (by-step Remove d s (λ o. o.refusal ≡ 0 → step_as Reinsert o.after t ≡ accepted (effect 0 d)) (λ _ z e. absurd (z e))
    (λ a _. back d s t w b.process b.node a))
