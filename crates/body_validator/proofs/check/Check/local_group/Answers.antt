use Rattle.body_validator.proofs.Groups.{grouped-behind}
use Rattle.body_validator.proofs.check.Check.local_group.Goals as goal

pub returns-clause-groups : goal.returns-clause-groups
returns-clause-groups c = grouped-behind c.args.offset c.args.count c.args.t c.declare.result c.args.self.now c.declare.new.self c.declare.ensures
