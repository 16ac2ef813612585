use Rattle.simulation.proofs.Memory.Globals.{global_set_does}
use Rattle.simulation.proofs.memory_laws.global_set_law.Goals as goal

pub returns : goal.returns
returns c = global_set_does
