use Rattle.body_validator.proofs.Heights.{places_kept}
use Rattle.body_validator.proofs.laws.places_are_kept.Goals as goal

pub returns : goal.returns
returns c = places_kept
