use Rattle.section_reader.proofs.OnwardSilence.{refused_ends}
use Rattle.section_reader.proofs.front.Front.end.Goals as goal

pub returns-in-Some-clause-onward : goal.returns-in-Some-clause-onward
returns-in-Some-clause-onward c = λ apart waits. refused_ends c.args.self.now c.in-Some.refusal waits c.in-Some.is
