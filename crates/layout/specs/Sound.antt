-- Words that are those of a well-formed domain: what a caller that has checked once knows. Assumes nothing.
use Rattle.std.specs.Prelude.{ℕ, ◌*◌, ◌≤◌, List, ◌≡◌, length}
use Rattle.model.specs.Params.{Params, Between, most_processes, most_hazards, most_nodes}
use Rattle.model.specs.WellFormed.{WellFormed}
use Rattle.layout.specs.Shape.{Shape, process_width, word_count_by}
use Rattle.layout.specs.Encode.{encode_by, decode_by, shape}

-- the most words that the processes of any domain take
abbrev pub most_rows : Shape → ℕ
most_rows sh = most_processes * process_width sh most_hazards

-- the bare numbers that an index goes by
pub record SizesBy (sh : Shape) (a : Params) (ws : List ℕ) : Type 0 where
  pub processes : Between 1 most_processes a.processes
  pub hazards : Between 1 most_hazards a.hazards
  pub nodes : Between 1 most_nodes a.nodes
  pub rows : a.processes * process_width sh a.hazards ≤ most_rows sh
  pub long : length ws ≡ word_count_by sh a

pub record SoundBy (sh : Shape) (ws : List ℕ) : Type 0 where
  pub domain : WellFormed (decode_by sh ws)
  pub whole : ws ≡ encode_by sh (decode_by sh ws)
  pub sizes : SizesBy sh (sh.head.get ws).params ws

-- ---- the paper's layout

abbrev pub Sizes : List ℕ → Type 0
Sizes ws = SizesBy shape (shape.head.get ws).params ws

abbrev pub Sound : List ℕ → Type 0
Sound ws = SoundBy shape ws
