use Rattle.wasm_defs.specs.declared.token.Token.TheVariants.{Plain}
use Rattle.body_validator.proofs.Answering.{maybe_exact, maybe_placed}
use Rattle.body_validator.proofs.check.Check.common.Goals as goal

pub returns-clause-exact : goal.returns-clause-exact
returns-clause-exact c = λ tokens. maybe_exact c.args.offset tokens (Plain c.args.plain.now) c.common_answer.result c.args.self.now c.common_answer.new.self c.common_answer.ensures.steps

pub returns-clause-places : goal.returns-clause-places
returns-clause-places c = λ tokens. maybe_placed c.args.offset tokens (Plain c.args.plain.now) c.common_answer.result c.args.self.now c.common_answer.new.self c.common_answer.ensures.steps
