use Rattle.std.proofs.Common.{◌∙◌, ◌++◌, arith}
use Rattle.module_gen.specs.Numbers.{spelling}
use Rattle.module_gen.proofs.Spellings.{all_left, one_less}
use Rattle.module_gen.proofs.numbers.put_number.Goals as goal

pub loop-rest-preserved : goal.loop-rest-preserved
loop-rest-preserved c = rw c.in_ok-push.ensures.items
    (one_less c.args.end c.loop-rest.out.items c.loop-rest.rest (c.args.out.now.items ++ spelling c.args.end 5 c.args.number) c.requires.least c.loop-rest-test.true c.loop-rest.invariant)

pub returns : goal.returns
returns c = c.in_ok-push-2.ensures.items
    ∙ all_left c.args.end c.loop-rest.out.items c.loop-rest.rest (c.args.out.now.items ++ spelling c.args.end 5 c.args.number) (omega arith) c.loop-rest.invariant
