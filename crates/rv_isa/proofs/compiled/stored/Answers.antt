use Rattle.std.proofs.Common.{arith}
use Rattle.rv_isa.proofs.Stored.{any_default}
use Rattle.rv_isa.proofs.compiled.stored.Goals as goal

pub returns-clause-small : goal.returns-clause-small
returns-clause-small g c k d lt = omega (arith, c.type_inv.words k, any_default c.args.words.now k d 0 lt)
