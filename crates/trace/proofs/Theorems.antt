-- Each claim of specs/Claims.antt with its proof. Assumes nothing.
use Prim.Native.Nat.{ℕ, ◌+◌, ◌*◌, ◌<◌}
use mathlib.Core.Bool.{Bool, true, false, cond}
use mathlib.Core.List.{List}
use mathlib.Core.Path.{◌≡◌, refl}
use mathlib.Core.Logic.{◌≢◌}
use native.Mathlib.Omega.{arith}
use lib.ListN.{set, length-set}
use lib.Dec.{leb}
use lib.Seq.{get_or-set_other}
use Rattle.trace.specs.Trace.{trace_at, trace_of, trailer_right}
use Rattle.trace.specs.Bytes.{byte_at, word_at, step_in, no_step, step_at}
use Rattle.trace.specs.Claims.{FrontLeads, StepsInTurn, EarlierUnread, FourthUnread, BeforeLateness}
use Rattle.trace.specs.Claims.{WrittenRead}
use Rattle.trace.specs.Claims.{GreatestRead}
use Rattle.trace.proofs.InTurn as T
use Rattle.trace.proofs.Shifted as S
use Rattle.trace.proofs.ReadBack as R
use Rattle.trace.proofs.Opening.{trailer-fits, no-trailer}

pub front-leads : FrontLeads
front-leads = T.front-leads

pub steps-in-turn : StepsInTurn
steps-in-turn = T.steps-in-turn

pub earlier-unread : EarlierUnread
earlier-unread = S.earlier-unread

pub written_read : WrittenRead
written_read = R.written_read

pub greatest-read : GreatestRead
greatest-read = R.greatest-read

pub before-lateness : BeforeLateness
unfolding trace_of
before-lateness bs short shorter = no-trailer bs (trace_at bs) short (wrong (trailer_right bs) refl)
  where
    wrong : (b : Bool) → trailer_right bs ≡ b → trailer_right bs ≡ false
    wrong true e = absurd (omega (arith, (trailer-fits bs e).distance))
    wrong false e = e

-- every place but the fourth keeps its byte
kept : (bs : List ℕ) (i v j : ℕ) → j ≢ i + 3 → byte_at (set bs (i + 3) v) j ≡ byte_at bs j
kept bs i v j h = get_or-set_other bs (i + 3) j v 0 h

kept_word : (bs : List ℕ) (i v j : ℕ) → i + 3 < j → word_at (set bs (i + 3) v) j ≡ word_at bs j
unfolding word_at
kept_word bs i v j h =
    let a = kept bs i v j (omega arith) in
    let b = kept bs i v (j + 1) (omega arith) in
    let c = kept bs i v (j + 2) (omega arith) in
    let d = kept bs i v (j + 3) (omega arith) in
    λ t. a t + 256 * b t + 65536 * c t + 16777216 * d t

pub fourth-unread : FourthUnread
unfolding step_at step_in
fourth-unread bs i v =
    let l = length-set bs (i + 3) v in
    let a = kept bs i v i (omega arith) in
    let b = kept bs i v (i + 1) (omega arith) in
    let c = kept bs i v (i + 2) (omega arith) in
    let d = kept_word bs i v (i + 4) (omega arith) in
    let e = kept_word bs i v (i + 8) (omega arith) in
    λ t. cond (leb (i + 12) (l t)) (record { kind = a t; process = b t; hazard = c t; node = d t; guest = e t }) no_step
