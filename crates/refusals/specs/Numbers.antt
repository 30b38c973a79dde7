-- The papers' numbers of the refusals. Assumes nothing.
use Rattle.std.specs.Prelude.{ℕ}
use Rattle.std.specs.Prelude.{Result, Ok, Err}
use Rattle.refusals.specs.declared.Refusal.{Refusal}
use Rattle.refusals.specs.declared.Refusal.TheVariants.{ParameterOutOfRange, WordCount, Malformed, UnknownKind, NoSuchProcess, NoSuchHazard}
use Rattle.refusals.specs.declared.Refusal.TheVariants.{NoSuchNode, WrongState, NotOwner, NothingAssigned, NotReachable, NotValidated}
use Rattle.refusals.specs.declared.Refusal.TheVariants.{BufferFull, NoStorePending, ClockAtEnd, StoreTooOld, StillAssigned, TooLong, NoTrailer}
use Rattle.refusals.specs.declared.Refusal.TheVariants.{WrongAttendance, Burdened, NobodyTakesOver, LimitOutOfRange}

abbrev pub number : Refusal → ℕ
number ParameterOutOfRange = 1
number WordCount = 2
number Malformed = 3
number UnknownKind = 4
number NoSuchProcess = 5
number NoSuchHazard = 6
number NoSuchNode = 7
number WrongState = 8
number NotOwner = 9
number NothingAssigned = 10
number NotReachable = 11
number NotValidated = 12
number BufferFull = 13
number NoStorePending = 14
number ClockAtEnd = 15
number StoreTooOld = 16
number StillAssigned = 17
number TooLong = 18
number NoTrailer = 19
number WrongAttendance = 20
number Burdened = 21
number NobodyTakesOver = 22
number LimitOutOfRange = 23

-- the number of an answer: 0 where nothing is refused
abbrev pub refusal_in : {A : Type 0} → Result A Refusal → ℕ
refusal_in (Ok x) = 0
refusal_in (Err r) = number r

-- the value of an answer: 0 where it is refused
abbrev pub value_in : Result ℕ Refusal → ℕ
value_in (Ok n) = n
value_in (Err r) = 0
