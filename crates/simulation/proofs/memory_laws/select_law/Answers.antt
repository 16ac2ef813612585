use Rattle.simulation.proofs.Memory.Instructions.{select_does}
use Rattle.simulation.proofs.memory_laws.select_law.Goals as goal

pub returns : goal.returns
returns c = select_does
