use Rattle.frame_layout.proofs.Imports.{import_asks}
use Rattle.frame_layout.proofs.laws.import_law.Goals as goal

pub returns : goal.returns
returns c = import_asks
