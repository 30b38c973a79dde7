-- What a portion of a scan on sound words answers and leaves. Assumes nothing.
use Rattle.std.specs.Prelude.{ℕ, List, Result, Ok, Err, ◌≡◌}
use Rattle.refusals.specs.declared.Refusal.{Refusal}
use Rattle.refusals.specs.Numbers.{refusal_in}
use Rattle.model.specs.Machine.{PortionAnswer}
use Rattle.layout.specs.Encode.{encode}
use Rattle.layout.specs.Sound.{Sound}
use Rattle.retire.specs.declared.portion.Portion.{Portion}

-- the numbers of an answer: each 0 where it is refused
abbrev pub portion_in : Result Portion Refusal → Portion
portion_in (Ok x) = x
portion_in (Err r) = record { freed = 0; examined = 0; next = 0; left = 0 }

-- answer r and the words ws afterwards are those of x, and the words are sound
pub record Portions (x : PortionAnswer) (r : Result Portion Refusal) (ws : List ℕ) : Type 0 where
  pub refusal : refusal_in r ≡ x.refusal
  pub freed : (portion_in r).freed ≡ x.freed
  pub examined : (portion_in r).examined ≡ x.examined
  pub next : (portion_in r).next ≡ x.next
  pub left : (portion_in r).left ≡ x.left
  pub words : ws ≡ encode x.after
  pub sound : Sound ws
