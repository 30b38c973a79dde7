-- A process shows a node to another where there is a first hazard that does. Assumes nothing.
use Prim.Native.Nat.{ℕ, ◌<◌}
use mathlib.Core.List.{List}
use mathlib.Core.Path.{◌≡◌, sym, ap, ◌∙◌}
use lib.Dec.{ltb, eqb}
use Rattle.lists.proofs.First.{first-lacks}
use Rattle.model.specs.State.{process_of}
use Rattle.model.specs.Retire.{visible_in}
use Rattle.model.specs.Why.{shows, showing_hazard}
use Rattle.model.proofs.Unclaimed.{visible-length}
use Rattle.model.proofs.WellFormed.{process-fits}
use Rattle.layout.specs.Encode.{decode, params_in}
use Rattle.layout.specs.Sound.{Sound}
use Rattle.layout.proofs.Sound.{head_words_lem}
use Rattle.std.specs.Option.{is_some}
use Rattle.domain.specs.Found.{hazard_below}
use Rattle.domain.proofs.Found.{some-below}

pub shows_first : {ws : List ℕ} → Sound ws → (p v q : ℕ) → q < (params_in ws).processes
    → is_some (hazard_below (params_in ws).hazards (showing_hazard (decode ws) p v q)) ≡ shows p v q (process_of (decode ws) q)
shows_first {ws} s p v q l =
    let x = process_of (decode ws) q in
    let fits = process-fits s.domain q (rw (← (head_words_lem ws).processes) l) in
    let wide = visible-length (eqb q p) x ∙ fits.stores.width ∙ sym (head_words_lem ws).hazards in
    some-below (λ h. record { 0 = h }) (params_in ws).hazards (showing_hazard (decode ws) p v q)
    ∙ ap (ltb (showing_hazard (decode ws) p v q)) (sym wide)
    ∙ first-lacks (visible_in (eqb q p) x) v
