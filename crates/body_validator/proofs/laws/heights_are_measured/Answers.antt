use Rattle.body_validator.proofs.Heights.{heights_measured}
use Rattle.body_validator.proofs.laws.heights_are_measured.Goals as goal

pub returns : goal.returns
returns c = heights_measured
