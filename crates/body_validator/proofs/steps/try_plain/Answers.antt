use Rattle.std.proofs.Common.{Option, subst}
use Rattle.body_validator.specs.Checking.{Frames}
use Rattle.body_validator.specs.Exchange.{Tries}
use Rattle.body_validator.proofs.Taking.{plain_step}
use Rattle.body_validator.proofs.steps.try_plain.Goals as goal

pub returns : goal.returns
returns c =
    let frames = c.args.stack.now in
    subst (λ (x : Option Frames). Tries x c.take_common.result frames c.take_common.new.stack) (plain_step c.args.scope.now c.args.plain.now frames) c.take_common.ensures
