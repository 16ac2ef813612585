use Rattle.body_validator.proofs.Exact.{bodies_accepted}
use Rattle.body_validator.proofs.laws.bodies_are_accepted.Goals as goal

pub returns : goal.returns
returns c = bodies_accepted
