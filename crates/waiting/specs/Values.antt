-- The rules' answer for each value of the code. Assumes nothing.
use Rattle.std.specs.Prelude.{Result, Ok, Err}
use Rattle.model.specs.Why as M
use Rattle.layout.specs.Values.{state_number}
use Rattle.refusals.specs.declared.Refusal.{Refusal}
use Rattle.refusals.specs.Numbers.{number}
use Rattle.waiting.specs.declared.Reason.{Reason}
use Rattle.waiting.specs.declared.Reason.TheVariants.{NotRetired, Young, Visible, Ready}
use Rattle.waiting.specs.declared.Behind.{Behind}
use Rattle.waiting.specs.declared.Behind.TheVariants.{NotAsked, Nobody, Lagging}
use Rattle.waiting.specs.declared.Why.{Why}

abbrev pub reason_value : Reason → M.Reason
reason_value (NotRetired s) = M.NotRetired (state_number s)
reason_value (Young t) = M.Young t
reason_value (Visible q h) = M.Visible q.0 h.0
reason_value Ready = M.Ready

abbrev pub behind_value : Behind → M.Behind
behind_value NotAsked = M.NotAsked
behind_value Nobody = M.Nobody
behind_value (Lagging q) = M.Lagging q.0

abbrev pub why_value : Why → M.Why
why_value w = record { reason = reason_value w.reason; behind = behind_value w.behind }

abbrev pub explained_value : Result Why Refusal → M.Explained
explained_value (Ok w) = M.Told (why_value w)
explained_value (Err r) = M.Refused (number r)
