use Rattle.frame_layout.proofs.Beginnings.{exhaustion_does}
use Rattle.frame_layout.proofs.laws.exhaustion_law.Goals as goal

pub returns : goal.returns
returns c = exhaustion_does
