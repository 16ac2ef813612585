use Rattle.std.proofs.Common.{arith, ap, length}
use Rattle.section_reader.proofs.Ending.{skips, skip_same, skip_onward, skip_total}
use Rattle.section_reader.proofs.front.Front.skip_to.Goals as goal

pub returns-clause-same : goal.returns-clause-same
returns-clause-same c = λ bytes more sum. skip_same c.args.self.now c.args.end c.requires bytes more sum

pub returns-clause-onward : goal.returns-clause-onward
returns-clause-onward c = λ more. skip_onward c.args.self.now c.args.end c.requires more

pub returns-clause-total : goal.returns-clause-total
returns-clause-total c = skip_total c.args.self.now c.args.end c.requires

pub invariant_of-self-clause-unread : goal.invariant_of-self-clause-unread
invariant_of-self-clause-unread c = λ some. absurd (omega (arith, some, ap length (skips c.args.self.now c.args.end c.requires).kept))

pub returns-clause-idle : goal.returns-clause-idle
returns-clause-idle c = (skips c.args.self.now c.args.end c.requires).waiting
