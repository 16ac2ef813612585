use Rattle.body_validator.proofs.Exact.{fronts_viable}
use Rattle.body_validator.proofs.laws.fronts_are_viable.Goals as goal

pub returns : goal.returns
returns c = fronts_viable
