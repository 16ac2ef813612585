use Rattle.drill_laws.proofs.Modules.{drills_are_modules}
use Rattle.drill_laws.proofs.drills_are_modules.Goals as goal

pub returns : goal.returns
returns c = drills_are_modules
