use Rattle.frame_layout.proofs.Instructions.{local_get_does}
use Rattle.frame_layout.proofs.laws.local_get_law.Goals as goal

pub returns : goal.returns
returns c = local_get_does
