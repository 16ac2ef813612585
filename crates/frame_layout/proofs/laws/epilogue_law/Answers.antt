use Rattle.frame_layout.proofs.Endings.{epilogue_does}
use Rattle.frame_layout.proofs.laws.epilogue_law.Goals as goal

pub returns : goal.returns
returns c = epilogue_does
