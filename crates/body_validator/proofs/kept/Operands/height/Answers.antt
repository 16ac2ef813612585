use Rattle.std.proofs.Common.{arith}
use Rattle.body_validator.proofs.Laying.{flat_length}
use Rattle.body_validator.proofs.kept.Operands.height.Goals as goal

pub returns : goal.returns
returns c = omega (arith, c.len.ensures, flat_length c.args.self.now c.requires, c.args.self.now.singles.ok.0)
