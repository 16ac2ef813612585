use Rattle.std.proofs.Common.{ap, ◌∙◌, sym}
use Rattle.body_validator.specs.Checking.{may_end}
use Rattle.body_validator.specs.Stacks.{signature}
use Rattle.body_validator.proofs.stack.can_end.Goals as goal

pub returns-in-If : goal.returns-in-If
returns-in-If c =
    let frame = c.args.frame in
    c.are_same.ensures ∙ sym (ap (λ o. may_end o (signature frame.params.now frame.results.now)) c.in-If.is)
