use Rattle.simulation.proofs.Memory.StoreStanding.{store_kept}
use Rattle.simulation.proofs.memory_laws.store_kept_law.Goals as goal

pub returns : goal.returns
returns c = store_kept
