use Rattle.std.proofs.Common.{arith}
use Rattle.body_validator.specs.declared.kept.Operands.{Operands}
use Rattle.body_validator.specs.Exchange.{few_types, given_types}
use Rattle.body_validator.proofs.Laying.{singles_over, tried_over}
use Rattle.body_validator.proofs.kept.Operands.exchange_few.Goals as goal

pub returns : goal.returns
returns c =
    let o = c.args.self.now in
    let n : Operands = record o { singles = c.exchange_few.new.operands } in
    let over = singles_over o c.exchange_few.new.operands c.exchange_few.ensures.below (omega (arith, c.exchange_few.ensures.above, c.exchange_few.new.operands.ok.0)) in
    λ base unknown seen. tried_over base unknown (few_types c.args.taken) (given_types c.args.given) o n c.exchange_few.result seen over (c.exchange_few.ensures.own o.unknown)
