use Rattle.simulation.proofs.Memory.Bulk.Init.{drop_law_does}
use Rattle.simulation.proofs.bulk_laws.drop_law.Goals as goal

pub returns : goal.returns
returns c = drop_law_does
