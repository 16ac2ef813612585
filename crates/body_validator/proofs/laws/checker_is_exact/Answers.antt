use Rattle.body_validator.proofs.Exact.{checker_exact}
use Rattle.body_validator.proofs.laws.checker_is_exact.Goals as goal

pub returns : goal.returns
returns c = checker_exact
