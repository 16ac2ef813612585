use Rattle.simulation.proofs.Memory.Tables.{indirect_does}
use Rattle.simulation.proofs.memory_laws.indirect_law.Goals as goal

pub returns : goal.returns
returns c = indirect_does
