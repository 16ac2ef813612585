use Rattle.body_validator.proofs.TreeLaws.{trees_one}
use Rattle.body_validator.proofs.laws.trees_are_one.Goals as goal

pub returns : goal.returns
returns c = trees_one
