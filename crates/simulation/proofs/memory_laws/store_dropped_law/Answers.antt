use Rattle.simulation.proofs.Memory.StoreStanding.{store_dropped}
use Rattle.simulation.proofs.memory_laws.store_dropped_law.Goals as goal

pub returns : goal.returns
returns c = store_dropped
