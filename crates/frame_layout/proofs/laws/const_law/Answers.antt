use Rattle.frame_layout.proofs.Instructions.{const_does}
use Rattle.frame_layout.proofs.laws.const_law.Goals as goal

pub returns : goal.returns
returns c = const_does
