use Rattle.simulation.proofs.Memory.StoreStanding.{store_stored}
use Rattle.simulation.proofs.memory_laws.store_stored_law.Goals as goal

pub returns : goal.returns
returns c = store_stored
