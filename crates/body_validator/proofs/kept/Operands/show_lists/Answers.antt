use Rattle.std.proofs.Common.{ap, length, arith}
use Rattle.body_validator.proofs.Laying.{base_seen, some_seen}
use Rattle.body_validator.proofs.kept.Operands.show_lists.Goals as goal

pub look-requires-clause-within : goal.look-requires-clause-within
look-requires-clause-within c = omega (arith, ap length c.lower.ensures.same, base_seen c.args.base c.args.unknown c.loop-self.self c.loop-self.invariant.seen)

pub lower-requires-clause-some : goal.lower-requires-clause-some
lower-requires-clause-some c = some_seen c.args.base c.args.unknown c.loop-self.self c.loop-self.invariant.seen (omega arith)
