use Rattle.frame_layout.proofs.Spaced.{function_spaced}
use Rattle.frame_layout.proofs.laws.spaced_law.Goals as goal

pub returns : goal.returns
returns c = function_spaced
