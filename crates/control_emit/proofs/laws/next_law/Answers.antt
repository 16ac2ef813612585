use Rattle.control_emit.proofs.Partly.{next_is_within}
use Rattle.control_emit.proofs.laws.next_law.Goals as goal

pub returns : goal.returns
returns c = next_is_within
