-- What a call reads of a domain's words and does to them, as the model has it. Assumes nothing.
use Rattle.std.specs.Prelude.{ℕ, suc, Bool, false, not, ◌&&◌, List, ◌≡◌, get_or}
use Rattle.model.specs.State.{Process, Node, Domain, Step, process_of, set_process}
use Rattle.model.specs.Retire.{Effect, retired_by, aged, within}
use Rattle.layout.specs.Encode.{encode, decode}

-- the words ws afterwards are those of the effect, and v is its value
abbrev pub Does : Effect → List ℕ → ℕ → Type 0
Does e ws v = (ws ≡ encode e.after) × (v ≡ e.value)

-- process p of the domain that the words hold
abbrev pub process_in : List ℕ → ℕ → Process
process_in ws p = process_of (decode ws) p

-- the words of that domain after f of the domain, and after f of its process p
abbrev pub changed : (Domain → Domain) → List ℕ → List ℕ
changed f ws = encode (f (decode ws))

abbrev pub process_changed : ℕ → (Process → Process) → List ℕ → List ℕ
process_changed p f ws = encode (set_process (decode ws) p (f (process_in ws p)))

-- node c may be freed by a scan of p over the nodes from a up to b that goes by marks: mark v says that p sees v in a hazard
abbrev pub unmarked : Domain → ℕ → ℕ → ℕ → List Bool → ℕ → Node → Bool
unmarked d p a b marks c n = within a b c && (retired_by p n && (aged d n && not (get_or marks (suc c) false)))

-- the step of these five numbers
abbrev pub given : ℕ → ℕ → ℕ → ℕ → ℕ → Step
given kind p h c guest = record { kind = kind; process = p; hazard = h; node = c; guest = guest }
