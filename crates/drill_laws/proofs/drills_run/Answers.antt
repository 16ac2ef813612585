use Rattle.drill_laws.proofs.Modules.{drills_run}
use Rattle.drill_laws.proofs.drills_run.Goals as goal

pub returns : goal.returns
returns c = drills_run
