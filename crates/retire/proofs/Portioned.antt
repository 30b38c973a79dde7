-- A portion of a scan, by where it ends; and one that meets nothing. Assumes nothing.
use Prim.Native.Nat.{ℕ}
use mathlib.Core.Bool.{◌&&◌}
use mathlib.Core.List.{List}
use mathlib.Core.Path.{◌≡◌, refl, sym, ◌∙◌, ap, subst}
use native.Mathlib.Omega.{arith}
use Rattle.lists.specs.Tests.{count, count_from}
use Rattle.lists.proofs.Bools.{both}
use Rattle.lists.proofs.Counts.{count-fewer}
use Rattle.lists.proofs.Sweeps.{sweep-of-none}
use Rattle.lists.proofs.Between.{count-between}
use Rattle.model.specs.State.{Node, Domain, free_node, with_nodes}
use Rattle.model.specs.Retire.{retired_by, within, due_in, partial_scan}
use Rattle.layout.specs.Encode.{encode, decode}
use Rattle.layout.specs.Sound.{Sound}
use Rattle.model.specs.Portion.{nodes_from, scanned_to, portion}
use Rattle.nodes.specs.Portions.{Reached}
use Rattle.nodes.specs.declared.portions.End.{End}
use Rattle.domain.specs.Effects.{Does}
use Rattle.retire.specs.Portions.{Scans}
use Rattle.retire.specs.declared.portion.Portion.{Portion}

-- the nodes up to the end scanned, and those from there on counted
pub portioned : (d : Domain) (p c l : ℕ) {m : ℕ} {e : End} → Reached (retired_by p) l c m d.nodes e → {left : ℕ}
    → left ≡ count (retired_by p) (nodes_from d e.next) → {freed : ℕ} {ws : List ℕ} → Does (partial_scan d p c e.next) ws freed
    → Scans (portion d p c l) (record { freed = freed; examined = e.examined; next = e.next; left = left }) ws
portioned d p c l {e = e} h {left} k {freed} {ws} s =
    let r : Portion = record { freed = freed; examined = e.examined; next = e.next; left = left } in
    subst (λ (b : ℕ). Scans (scanned_to d p c b) r ws) h.next
    (record { freed = s.1; examined = h.examined; next = refl; left = k; words = s.0 })

-- ---- none is met

module _ {ws : List ℕ} (s : Sound ws) (p c l : ℕ) {m : ℕ} {e : End} (h : Reached (retired_by p) l c m (decode ws).nodes e) (z : e.examined ≡ 0) where
  abbrev d : Domain
  d = decode ws

  none-due : count_from (due_in d p c e.next) 0 d.nodes ≡ 0
  none-due =
      let few = count-fewer (due_in d p c e.next) (λ i n. within c e.next i && retired_by p n) 0 d.nodes
      (λ i n t. let w = both (within c e.next i) _ t in rw (w.0, (both (retired_by p n) _ w.1).0)) in
      omega (arith, few, count-between (retired_by p) c e.next d.nodes h.low, h.examined)

  none-freed : Does (partial_scan d p c e.next) ws 0
  none-freed = (
    s.whole ∙ ap (λ (ns : List Node). encode (with_nodes d ns)) (sym (sweep-of-none free_node (due_in d p c e.next) 0 d.nodes none-due)),
    sym none-due,
  )

  pub none-met : {left : ℕ} → left ≡ count (retired_by p) (nodes_from d e.next)
      → Scans (portion d p c l) (record { freed = 0; examined = 0; next = e.next; left = left }) ws
  none-met {left} k =
      subst (λ (x : ℕ). Scans (portion d p c l) (record { freed = 0; examined = x; next = e.next; left = left }) ws) z
      (portioned d p c l h k none-freed)
