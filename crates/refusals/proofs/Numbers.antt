-- The papers' numbers. Assumes nothing.
use Rattle.std.proofs.Common.{◌≢◌, arith}
use Rattle.refusals.specs.declared.Refusal.{Refusal}
use Rattle.refusals.specs.declared.Refusal.TheVariants.{ParameterOutOfRange, WordCount, Malformed, UnknownKind, NoSuchProcess, NoSuchHazard}
use Rattle.refusals.specs.declared.Refusal.TheVariants.{NoSuchNode, WrongState, NotOwner, NothingAssigned, NotReachable, NotValidated}
use Rattle.refusals.specs.declared.Refusal.TheVariants.{BufferFull, NoStorePending, ClockAtEnd, StoreTooOld, StillAssigned, TooLong, NoTrailer}
use Rattle.refusals.specs.declared.Refusal.TheVariants.{WrongAttendance, Burdened, NobodyTakesOver, LimitOutOfRange}
use Rattle.refusals.specs.Numbers.{number}

-- 0 is no refusal's: it says that nothing is refused
pub some-number : (r : Refusal) → number r ≢ 0
some-number ParameterOutOfRange e = omega arith
some-number WordCount e = omega arith
some-number Malformed e = omega arith
some-number UnknownKind e = omega arith
some-number NoSuchProcess e = omega arith
some-number NoSuchHazard e = omega arith
some-number NoSuchNode e = omega arith
some-number WrongState e = omega arith
some-number NotOwner e = omega arith
some-number NothingAssigned e = omega arith
some-number NotReachable e = omega arith
some-number NotValidated e = omega arith
some-number BufferFull e = omega arith
some-number NoStorePending e = omega arith
some-number ClockAtEnd e = omega arith
some-number StoreTooOld e = omega arith
some-number StillAssigned e = omega arith
some-number TooLong e = omega arith
some-number NoTrailer e = omega arith
some-number WrongAttendance e = omega arith
some-number Burdened e = omega arith
some-number NobodyTakesOver e = omega arith
some-number LimitOutOfRange e = omega arith
