-- The numbers by which a host is told why a node waits, of every case; a number that a case does not have is 0. Assumes nothing.
use Rattle.std.specs.Prelude.{ℕ}
use Rattle.model.specs.Why.{Reason, NotRetired, Young, Visible, Ready, Behind, NotAsked, Nobody, Lagging}
use Rattle.model.specs.Why.{Explained, Refused, Told}

pub record Numbers : Type 0 where
  pub refusal : ℕ
  pub answer : ℕ
  pub state : ℕ
  pub ticks : ℕ
  pub process : ℕ
  pub hazard : ℕ
  pub behind : ℕ
  pub behind_process : ℕ

-- 1 not Retired, with its state; 2 too young, with the ticks; 3 visible, with the process and its hazard; 4 ready
abbrev pub answer_of : Reason → ℕ
answer_of (NotRetired s) = 1
answer_of (Young t) = 2
answer_of (Visible q h) = 3
answer_of Ready = 4

abbrev pub state_of : Reason → ℕ
state_of (NotRetired s) = s
state_of (Young t) = 0
state_of (Visible q h) = 0
state_of Ready = 0

abbrev pub ticks_of : Reason → ℕ
ticks_of (NotRetired s) = 0
ticks_of (Young t) = t
ticks_of (Visible q h) = 0
ticks_of Ready = 0

abbrev pub process_of : Reason → ℕ
process_of (NotRetired s) = 0
process_of (Young t) = 0
process_of (Visible q h) = q
process_of Ready = 0

abbrev pub hazard_of : Reason → ℕ
hazard_of (NotRetired s) = 0
hazard_of (Young t) = 0
hazard_of (Visible q h) = h
hazard_of Ready = 0

-- 0 not asked, 1 none, 2 there is one, with its process
abbrev pub behind_of : Behind → ℕ
behind_of NotAsked = 0
behind_of Nobody = 1
behind_of (Lagging q) = 2

abbrev pub lagging_of : Behind → ℕ
lagging_of NotAsked = 0
lagging_of Nobody = 0
lagging_of (Lagging q) = q

-- of an answer that is not refused
abbrev pub told : Reason → Behind → Numbers
told r b =
    record {
      refusal = 0;
      answer = answer_of r;
      state = state_of r;
      ticks = ticks_of r;
      process = process_of r;
      hazard = hazard_of r;
      behind = behind_of b;
      behind_process = lagging_of b;
    }

abbrev pub numbers_of : Explained → Numbers
numbers_of (Refused n) =
    record { refusal = n; answer = 0; state = 0; ticks = 0; process = 0; hazard = 0; behind = 0; behind_process = 0 }
numbers_of (Told w) = told w.reason w.behind
