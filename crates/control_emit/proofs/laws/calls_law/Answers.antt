use Rattle.control_emit.proofs.Trees.{calls_are_those}
use Rattle.control_emit.proofs.laws.calls_law.Goals as goal

pub returns : goal.returns
returns c = calls_are_those
