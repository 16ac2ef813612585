use Rattle.simulation.proofs.Memory.StoreStanding.{store_grown}
use Rattle.simulation.proofs.memory_laws.store_grown_law.Goals as goal

pub returns : goal.returns
returns c = store_grown
