-- `retire::fall_back` meets its contract: the path, then presence. Assumes nothing.
use Rattle.retire.proofs.Branches.{sound-over, falls-back}
use Rattle.retire.proofs.fall_back.Goals as goal

pub clear_presence-requires : goal.clear_presence-requires
clear_presence-requires c = sound-over c.requires _ (rw c.into.ensures at c.set_path.ensures)

pub returns : goal.returns
returns c =
    let sound = c.requires in
    falls-back sound _ (rw c.into.ensures at c.set_path.ensures) _ c.clear_presence.ensures
