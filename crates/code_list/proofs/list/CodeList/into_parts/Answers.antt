use Rattle.std.proofs.Common.{sym}
use Rattle.code_list.proofs.list.CodeList.into_parts.Goals as goal

pub returns : goal.returns
returns c = (c.self.inside.sites.items, c.self.invariant, sym c.self.view_is)
