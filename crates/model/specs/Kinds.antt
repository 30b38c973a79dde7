-- The kinds of steps and their one table: which fields each reads, what each field is to it, and the node state it needs.
-- Assumes nothing.
use Rattle.std.specs.Prelude.{ℕ, zero, suc, Bool, true, false, List, [], ◌∷◌, length, get_or, eqb}
use Rattle.model.specs.State.{Free, Allocated, Reachable, Removed}

-- Flush is the paper's rooster, ClearPresence its roll call, Reinsert its repost
pub data Kind : Type 0 where
  Allocate Publish Protect Check Use Clear Remove Retire Drain Flush Tick Manage ClearPresence Reinsert Leave Join Portion Unknown : Kind

-- every kind that there is, in the order of their numbers from 1 on. How many there are is said by this list alone
abbrev pub kinds : List Kind
kinds =
    Allocate ∷ Publish ∷ Protect ∷ Check ∷ Use ∷ Clear ∷ Remove ∷ Retire ∷ Drain ∷ Flush ∷ Tick ∷ Manage ∷ ClearPresence
    ∷ Reinsert ∷ Leave ∷ Join ∷ Portion ∷ []

abbrev pub kind_count : ℕ
kind_count = length kinds

-- every number that is none of theirs is Unknown
abbrev pub kind_of : ℕ → Kind
kind_of zero = Unknown
kind_of (suc n) = get_or kinds n Unknown

abbrev pub number_of : Kind → ℕ
number_of Allocate = 1
number_of Publish = 2
number_of Protect = 3
number_of Check = 4
number_of Use = 5
number_of Clear = 6
number_of Remove = 7
number_of Retire = 8
number_of Drain = 9
number_of Flush = 10
number_of Tick = 11
number_of Manage = 12
number_of ClearPresence = 13
number_of Reinsert = 14
number_of Leave = 15
number_of Join = 16
number_of Portion = 17
number_of Unknown = 0

abbrev pub is : Kind → Kind → Bool
is j k = eqb (number_of j) (number_of k)

-- what a field of a step is to a kind. Number is one with no range of its own, Limit how many nodes a portion may examine
pub data Meaning : Type 0 where
  Unread ProcessId HazardId NodeId Number Limit : Meaning

abbrev pub rank : Meaning → ℕ
rank Unread = 0
rank ProcessId = 1
rank HazardId = 2
rank NodeId = 3
rank Number = 4
rank Limit = 5

abbrev pub means : Meaning → Meaning → Bool
means m n = eqb (rank m) (rank n)

-- the node state that a kind needs
pub data Needed : Type 0 where
  Any : Needed
  Exactly : ℕ → Needed

abbrev pub meets : Needed → ℕ → Bool
meets Any k = true
meets (Exactly n) k = eqb k n

pub record Row : Type 0 where
  pub process : Meaning
  pub hazard : Meaning
  pub node : Meaning
  pub guest : Meaning
  pub needs : Needed
  -- whether the process must own the node
  pub owns : Bool

-- a row of what is read, with no state needed; with a state needed; and owned too
abbrev pub reading : Meaning → Meaning → Meaning → Meaning → Row
reading p h n g = record { process = p; hazard = h; node = n; guest = g; needs = Any; owns = false }

abbrev pub needing : ℕ → Row → Row
needing k r = record { process = r.process; hazard = r.hazard; node = r.node; guest = r.guest; needs = Exactly k; owns = r.owns }

abbrev pub owning : Row → Row
owning r = record { process = r.process; hazard = r.hazard; node = r.node; guest = r.guest; needs = r.needs; owns = true }

abbrev pub row_of : Kind → Row
row_of Allocate = needing Free (reading ProcessId Unread NodeId Number)
row_of Publish = owning (needing Allocated (reading ProcessId Unread NodeId Unread))
row_of Protect = reading ProcessId HazardId NodeId Unread
row_of Check = reading ProcessId HazardId Unread Unread
row_of Use = reading ProcessId HazardId Unread Unread
row_of Clear = reading ProcessId HazardId Unread Unread
row_of Remove = needing Reachable (reading ProcessId Unread NodeId Unread)
row_of Retire = owning (needing Removed (reading ProcessId Unread NodeId Unread))
row_of Drain = reading ProcessId Unread Unread Unread
row_of Flush = reading ProcessId Unread Unread Unread
row_of Tick = reading Unread Unread Unread Unread
row_of Manage = reading ProcessId Unread Unread Unread
row_of ClearPresence = reading Unread Unread Unread Unread
row_of Reinsert = owning (needing Removed (reading ProcessId Unread NodeId Unread))
-- its node field is a second process, which takes over
row_of Leave = reading ProcessId Unread ProcessId Unread
row_of Join = reading ProcessId Unread Unread Unread
-- its node field is where it starts, its guest field a limit
row_of Portion = reading ProcessId Unread NodeId Limit
row_of Unknown = reading Unread Unread Unread Unread
