use Rattle.body_laws.proofs.OneCode.{codes_one}
use Rattle.body_laws.proofs.spelling.codes_are_one.Goals as goal

pub returns : goal.returns
returns c = codes_one
