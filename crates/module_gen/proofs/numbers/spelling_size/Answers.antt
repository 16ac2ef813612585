use Rattle.std.proofs.Common.{length, refl, arith}
use Rattle.module_gen.specs.Numbers.{spelling}
use Rattle.module_gen.proofs.Spellings.{counted, counted_less}
use Rattle.module_gen.proofs.numbers.spelling_size.Goals as goal

pub loop-rest-init : goal.loop-rest-init
loop-rest-init c = (4, omega arith, refl, omega arith)

pub loop-rest-preserved : goal.loop-rest-preserved
loop-rest-preserved c = counted_less c.args.end c.loop-rest.size c.loop-rest.rest (length (spelling c.args.end 5 c.args.number)) c.requires.least c.loop-rest-test.true c.loop-rest.invariant

pub returns-clause-value : goal.returns-clause-value
returns-clause-value c = (counted c.args.end c.loop-rest.size c.loop-rest.rest (length (spelling c.args.end 5 c.args.number)) (omega arith) c.loop-rest.invariant).0
