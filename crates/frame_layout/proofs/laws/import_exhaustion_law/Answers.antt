use Rattle.frame_layout.proofs.Imports.{import_traps}
use Rattle.frame_layout.proofs.laws.import_exhaustion_law.Goals as goal

pub returns : goal.returns
returns c = import_traps
