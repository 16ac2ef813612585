use Rattle.std.proofs.Common.{arith, sym}
use Rattle.section_reader.proofs.Texts.{text_follows}
use Rattle.section_reader.proofs.wait.text_after.Goals as goal

pub returns-clause-follows : goal.returns-clause-follows
returns-clause-follows c = λ d. text_follows c.args.owed c.args.inside c.in_ok-inside.inside d c.args.bytes.now (omega arith) (sym c.in_ok-inside.ensures) (omega arith)
