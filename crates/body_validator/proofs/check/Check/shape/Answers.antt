use Rattle.std.proofs.Common.{ap, ◌∙◌}
use Rattle.body_validator.specs.Checks.{Checked}
use Rattle.body_validator.proofs.Answering.{ends_measured}
use Rattle.body_validator.proofs.check.Check.shape.Goals as goal

pub returns-clause-greatest : goal.returns-clause-greatest
returns-clause-greatest c = λ tokens tree reach spells body.
    ap (λ (x : Checked). x.checker.greatest) c.self.view_is ∙ ends_measured c.args.self.now tokens tree c.requires reach spells body
