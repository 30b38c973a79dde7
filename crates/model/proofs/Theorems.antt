-- Each claim of specs/Claims.antt and specs/Rounds.antt, with its proof. Assumes nothing.
use Rattle.model.specs.Claims.{RefusedUnchanged, UnreadFields, FreshWellFormed, StepWellFormed, PanelStep}
use Rattle.model.specs.Claims.{Panel}
use Rattle.model.specs.Claims.{RemoveTakenBack, FreedAreCounted, Demand3, LatenessIsDelay, LatenessInBound}
use Rattle.model.specs.Claims.{NoLateness, WhyIsExact, PortionIsStep, PortionIsExact, PortionsAreScan}
use Rattle.model.specs.Claims.{PortionsEnd}
use Rattle.model.specs.Rounds.{SevenRounds, SevenRoundsOfOwner, SixRounds}
use Rattle.model.proofs.Unread as Unread
use Rattle.model.proofs.WellFormed as WellFormed
use Rattle.model.proofs.Panel as Counted
use Rattle.model.proofs.TakenBack as TakenBack
use Rattle.model.proofs.Freed as Freed
use Rattle.model.proofs.Lateness as Lateness
use Rattle.model.proofs.Demand3 as Follow
use Rattle.model.proofs.Why as Waiting
use Rattle.model.proofs.Portions as Portions
use Rattle.model.proofs.Rounds as Rounds

pub refused-unchanged : RefusedUnchanged
refused-unchanged = Unread.refused-unchanged

pub unread-fields : UnreadFields
unread-fields = Unread.unread-fields

pub fresh-well-formed : FreshWellFormed
fresh-well-formed = WellFormed.well-formed-fresh

pub step-well-formed : StepWellFormed
step-well-formed = WellFormed.well-formed-step

pub panel-step : PanelStep
panel-step = Counted.panel-step

pub panel : Panel
panel = Counted.panel

pub remove-taken-back : RemoveTakenBack
remove-taken-back = TakenBack.remove-taken-back

pub freed-are-counted : FreedAreCounted
freed-are-counted = Freed.freed-are-counted

pub demand-3 : Demand3
demand-3 = Follow.demand-3

pub lateness-is-delay : LatenessIsDelay
lateness-is-delay = Lateness.lateness-is-delay

pub lateness-in-bound : LatenessInBound
lateness-in-bound = Lateness.lateness-in-bound

pub no-lateness : NoLateness
no-lateness = Lateness.no-lateness

pub why-is-exact : WhyIsExact
why-is-exact = Waiting.why-is-exact

pub portion-is-step : PortionIsStep
portion-is-step = Portions.portion-is-step

pub portion-is-exact : PortionIsExact
portion-is-exact = Portions.portion-is-exact

pub portions-are-scan : PortionsAreScan
portions-are-scan = Portions.portions-are-scan

pub portions-end : PortionsEnd
portions-end = Portions.portions-end

pub seven-rounds : SevenRounds
seven-rounds = Rounds.seven-rounds

pub seven-rounds-of-owner : SevenRoundsOfOwner
seven-rounds-of-owner = Rounds.seven-rounds-of-owner

pub six-rounds : SixRounds
six-rounds = Rounds.six-rounds
