use Rattle.simulation.proofs.Memory.StoreStanding.{store_set}
use Rattle.simulation.proofs.memory_laws.store_set_law.Goals as goal

pub returns : goal.returns
returns c = store_set
