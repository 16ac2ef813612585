use Rattle.drill_laws.proofs.Steps.{drill_returns}
use Rattle.drill_laws.proofs.drills_return.Goals as goal

pub returns : goal.returns
returns c = drill_returns
