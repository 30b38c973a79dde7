-- Why a node (card) is still waiting: the first that is true of four answers, and who is behind in epochs. It changes nothing. Assumes
-- nothing.
use Rattle.std.specs.Prelude.{ℕ, suc, ◌-◌, Bool, not, ◌&&◌, cond, length, get_or, ltb, eqb}
use Rattle.lists.specs.Tests.{lacks, first_from}
use Rattle.model.specs.Params.{delay}
use Rattle.model.specs.State.{Process, Node, Domain, Fast, Retired, node_of, process_of, in_epochs}
use Rattle.model.specs.Retire.{visible_in, visible_to, age_of, aged}
use Rattle.model.specs.Questions.{node_in_range}

pub data Reason : Type 0 where
  -- its state
  NotRetired : ℕ → Reason
  -- the ticks until a scan could free it (too young)
  Young : ℕ → Reason
  -- the lowest process, and then its lowest hazard, that shows it to its owner (on the board as its owner sees it)
  Visible : ℕ → ℕ → Reason
  -- a scan by its owner now would free it
  Ready : Reason

-- the lowest present process whose local epoch differs from the global one
pub data Behind : Type 0 where
  -- on the fallback path
  NotAsked : Behind
  Nobody : Behind
  Lagging : ℕ → Behind

pub record Why : Type 0 where
  pub reason : Reason
  pub behind : Behind

-- ---- what the owner sees

-- what hazard h of process q shows to process p: a node as its number + 1, and 0 for none
abbrev pub shown_at : Domain → ℕ → ℕ → ℕ → ℕ
shown_at d p q h = get_or (visible_in (eqb q p) (process_of d q)) h 0

-- process q, which is x, shows v to process p
abbrev pub shows : ℕ → ℕ → ℕ → Process → Bool
shows p v q x = not (lacks (visible_in (eqb q p) x) v)

-- the lowest process that shows v to p; N where none does
abbrev pub showing_process : Domain → ℕ → ℕ → ℕ
showing_process d p v = first_from (shows p v) 0 d.processes

-- the lowest hazard of process q that shows v to p; K where none does
abbrev pub showing_hazard : Domain → ℕ → ℕ → ℕ → ℕ
showing_hazard d p v q = first_from (λ _ u. eqb u v) 0 (visible_in (eqb q p) (process_of d q))

-- of a node that is old enough to be freed by p: which hazard shows it to p, or that none does
abbrev pub seen_by : Domain → ℕ → ℕ → Reason
seen_by d p v =
    cond (lacks (visible_to d p) v) Ready (Visible (showing_process d p v) (showing_hazard d p v (showing_process d p v)))

-- ---- the four answers

-- what an age lacks to be old enough
abbrev pub ticks_left : Domain → Node → ℕ
ticks_left d n = suc (delay d.params) - age_of d n

-- of node c, which is n
abbrev pub reason_of : Domain → ℕ → Node → Reason
reason_of d c n =
    cond (eqb n.state Retired)
    (cond (aged d n) (seen_by d n.owner (suc c)) (Young (ticks_left d n)))
    (NotRetired n.state)

-- ---- who is behind

abbrev pub lags : Domain → Process → Bool
lags d x = in_epochs x && not (eqb x.epoch d.epoch)

-- the lowest process that lags; N where none does
abbrev pub laggard : Domain → ℕ
laggard d = first_from (λ _ x. lags d x) 0 d.processes

abbrev pub behind_in : Domain → Behind
behind_in d =
    cond (eqb d.path Fast)
    (cond (ltb (laggard d) (length d.processes)) (Lagging (laggard d)) Nobody)
    NotAsked

-- ---- both, and the call: 7 unless the node is below M

unfoldable pub why : Domain → ℕ → Why
why d c = record { reason = reason_of d c (node_of d c); behind = behind_in d }

pub data Explained : Type 0 where
  Refused : ℕ → Explained
  Told : Why → Explained

abbrev pub explained : Domain → ℕ → Explained
explained d c = cond (node_in_range d c) (Told (why d c)) (Refused 7)
