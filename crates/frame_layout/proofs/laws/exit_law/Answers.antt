use Rattle.frame_layout.proofs.Endings.{exit_does}
use Rattle.frame_layout.proofs.laws.exit_law.Goals as goal

pub returns : goal.returns
returns c = exit_does
