use Rattle.frame_layout.proofs.Beginnings.{prologue_does}
use Rattle.frame_layout.proofs.laws.prologue_law.Goals as goal

pub returns : goal.returns
returns c = prologue_does
