use Rattle.frame_layout.proofs.Instructions.{add_does}
use Rattle.frame_layout.proofs.laws.add_law.Goals as goal

pub returns : goal.returns
returns c = add_does
