use Rattle.image_linker.proofs.ToldTraps.{traps_are_told}
use Rattle.image_linker.proofs.laws.traps_are_told.Goals as goal

pub returns : goal.returns
returns c = traps_are_told
