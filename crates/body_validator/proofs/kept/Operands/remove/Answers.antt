use Rattle.std.proofs.Common.{arith}
use Rattle.body_validator.specs.declared.kept.Operands.{Operands}
use Rattle.body_validator.proofs.Laying.{singles_over, dropped_over, below_over, seen_over}
use Rattle.body_validator.proofs.kept.Operands.remove.Goals as goal

pub returns-clause-taken : goal.returns-clause-taken
returns-clause-taken c =
    let o = c.args.self.now in
    let n : Operands = record o { singles = c.remove.new.operands } in
    let over = singles_over o c.remove.new.operands c.remove.ensures.below (omega (arith, c.remove.ensures.above, c.remove.new.operands.ok.0)) in
    λ base unknown seen shown. (dropped_over base c.args.count unknown o n seen shown over c.remove.ensures.own, below_over base unknown o n seen over, seen_over base unknown o n seen over)
