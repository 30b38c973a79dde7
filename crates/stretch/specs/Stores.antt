-- A pending store of a process by its number. Assumes nothing.
use Rattle.std.specs.Prelude.{ℕ, get_or}
use Rattle.model.specs.State.{Pending, Process}

-- what is read past the last store
abbrev pub no_store : Pending
no_store = record { hazard = 0; node = 0; time = 0 }

-- pending store e of a process, the oldest being 0
abbrev pub store_of : Process → ℕ → Pending
store_of x e = get_or x.buffer e no_store
