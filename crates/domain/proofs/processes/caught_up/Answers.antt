-- `processes::caught_up` meets its contract: all have where none lags. Assumes nothing.
use mathlib.Core.Bool.{not, not-not}
use mathlib.Core.Path.{sym, ap, ◌∙◌}
use Rattle.std.specs.Option.{is_some}
use Rattle.domain.proofs.Seeking.{none-behind}
use Rattle.domain.proofs.processes.caught_up.Goals as goal

pub returns : goal.returns
returns c =
    sym (not-not c.is_none.result) ∙ ap not (sym c.is_none.ensures ∙ ap is_some c.laggard.ensures) ∙ none-behind c.requires
