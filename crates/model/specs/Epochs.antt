-- Manage: calls counted, presence, the switch back to the fast path, and the quiescent state (the paper's quiet step). Assumes nothing.
use Rattle.std.specs.Prelude.{ℕ, ◌+◌, ◌%◌, Bool, ◌&&◌, cond, eqb}
use Rattle.lists.specs.Tests.{every, implies}
use Rattle.model.specs.State.{Node, Domain, Step, Fast, Fallback, process_of, with_words, with_path}
use Rattle.model.specs.State.{with_epoch, set_process, in_presence, in_epochs, next_epoch}
use Rattle.model.specs.Hazards.{here}
use Rattle.model.specs.Retire.{Effect, effect, retired_by, freeing}

-- a Retired node of p in the limbo list of the global epoch
abbrev pub expired : Domain → ℕ → ℕ → Node → Bool
expired d p c n = retired_by p n && eqb n.limbo d.epoch

-- all local epochs of present processes equal the global one
abbrev pub caught_up : Domain → Bool
caught_up d = every (λ x. implies (in_epochs x) (eqb x.epoch d.epoch)) d.processes

-- the local epoch of p becomes the global one
abbrev pub adopted : Domain → ℕ → Domain
adopted d p = set_process d p (with_words (process_of d p) d.epoch (process_of d p).calls (process_of d p).presence)

abbrev pub adopt : Domain → ℕ → Effect
adopt d p = effect (freeing d (expired d p)).value (adopted (freeing d (expired d p)).after p)

abbrev pub quiescent : Domain → ℕ → Effect
quiescent d p =
    cond (eqb (process_of d p).epoch d.epoch)
    (cond (caught_up d) (effect 0 (with_epoch d (next_epoch d.epoch))) (effect 0 d))
    (adopt d p)

-- all presence words of present processes are 1
abbrev pub all_checked_in : Domain → Bool
all_checked_in d = every (λ x. implies (in_presence x) (eqb x.presence 1)) d.processes

-- a manage call that acts, presence being set
abbrev pub managing : Domain → ℕ → Effect
managing d p =
    cond (eqb d.path Fallback)
    (cond (all_checked_in d) (quiescent (with_path d Fast) p) (effect 0 d))
    (quiescent d p)

-- the call count after this call
abbrev pub called_by : Domain → Step → ℕ
called_by d s = ((here d s).calls + 1) % d.params.quiescence_threshold

abbrev pub counted : Domain → Step → ℕ → ℕ → Domain
counted d s k v = set_process d s.process (with_words (here d s) (here d s).epoch k v)

abbrev pub manage : Domain → Step → Effect
manage d s =
    cond (eqb (called_by d s) 0)
    (managing (counted d s 0 1) s.process)
    (effect 0 (counted d s (called_by d s) (here d s).presence))
