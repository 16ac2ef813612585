use Rattle.frame_layout.proofs.TrapWords.{traps_are_found}
use Rattle.frame_layout.proofs.laws.traps_law.Goals as goal

pub returns : goal.returns
returns c = traps_are_found
