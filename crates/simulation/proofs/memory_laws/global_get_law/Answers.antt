use Rattle.simulation.proofs.Memory.Globals.{global_get_does}
use Rattle.simulation.proofs.memory_laws.global_get_law.Goals as goal

pub returns : goal.returns
returns c = global_get_does
