use Rattle.verdict_laws.proofs.Decided.{has_verdict}
use Rattle.verdict_laws.proofs.verdicts.each_has_a_verdict.Goals as goal

pub returns : goal.returns
returns c = has_verdict
