use Rattle.frame_layout.proofs.Imports.{import_returns}
use Rattle.frame_layout.proofs.laws.import_return_law.Goals as goal

pub returns : goal.returns
returns c = import_returns
