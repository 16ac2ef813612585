use Rattle.std.proofs.Common.{sym, true, false}
use Rattle.body_validator.proofs.Flat.{depth_within, depth_past}
use Rattle.body_validator.proofs.operands.operand_at.Goals as goal

pub returns-then-depth-own : goal.returns-then-depth-own
returns-then-depth-own c = sym (depth_within c.args.unknown c.args.own.now c.args.depth _ c.if-depth-own.true)

pub returns-then-unknown : goal.returns-then-unknown
returns-then-unknown c = sym (depth_past c.args.unknown c.args.own.now c.args.depth true c.if-depth-own.false c.if-unknown.true)

pub returns-else-unknown : goal.returns-else-unknown
returns-else-unknown c = sym (depth_past c.args.unknown c.args.own.now c.args.depth false c.if-depth-own.false c.if-unknown.false)
