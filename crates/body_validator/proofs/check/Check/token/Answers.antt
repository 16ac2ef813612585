use Rattle.body_validator.proofs.Answering.{answered_exact, answered_placed}
use Rattle.body_validator.proofs.check.Check.token.Goals as goal

pub returns-clause-exact : goal.returns-clause-exact
returns-clause-exact c = λ tokens. answered_exact c.args.offset tokens c.args.token.now c.answer.result c.args.self.now c.answer.new.self c.answer.ensures

pub returns-clause-places : goal.returns-clause-places
returns-clause-places c = λ tokens. answered_placed c.args.offset tokens c.args.token.now c.answer.result c.args.self.now c.answer.new.self c.answer.ensures
