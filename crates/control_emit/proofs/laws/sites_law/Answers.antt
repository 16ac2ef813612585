use Rattle.control_emit.proofs.Sites.{sites_are_those}
use Rattle.control_emit.proofs.laws.sites_law.Goals as goal

pub returns : goal.returns
returns c = sites_are_those
