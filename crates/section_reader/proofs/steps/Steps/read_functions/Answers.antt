use Rattle.section_reader.proofs.Declaring.{with_rest}
use Rattle.section_reader.proofs.steps.Steps.read_functions.Goals as goal

pub returns-clause-read : goal.returns-clause-read
returns-clause-read c = with_rest c.args.self.now.seen.types c.args.bytes.now c.read_functions-read.result _ _ c.read_functions-read.ensures.read
