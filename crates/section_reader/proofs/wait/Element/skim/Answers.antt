use Rattle.std.proofs.Common.{arith}
use Rattle.section_reader.specs.Waits.{element_of}
use Rattle.section_reader.proofs.Skimming.{element_steady, none_skimmed, one_skimmed, stays_there}
use Rattle.section_reader.proofs.wait.Element.skim.Goals as goal

pub loop-passed-init : goal.loop-passed-init
loop-passed-init c = none_skimmed (element_of c.args.self) c.args.owed c.args.fields.now _ (omega arith)

pub loop-passed-preserved : goal.loop-passed-preserved
loop-passed-preserved c = one_skimmed (element_of c.args.self) c.args.owed c.loop-passed.passed c.args.fields.now c.loop-passed.fields c.pass.new.fields (element_steady c.args.self) (omega arith) (rw c.fork-next.ensures at c.in-Ok.ensures.read) c.loop-passed.invariant

pub returns-in-Err-Wants : goal.returns-in-Err-Wants
returns-in-Err-Wants c = stays_there (element_of c.args.self) c.args.owed c.loop-passed.passed c.args.fields.now c.loop-passed.fields (omega arith) (rw (c.fork-next.ensures, c.in-Err-Wants.field-0-is) at c.in-Err-Wants.ensures.read) c.loop-passed.invariant
