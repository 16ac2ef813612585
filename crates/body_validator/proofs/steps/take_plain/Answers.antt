use Rattle.std.proofs.Common.{subst}
use Rattle.wasm_defs.specs.Typing.{Rule, rule_of}
use Rattle.body_validator.specs.Checking.{Frames, applied, labels}
use Rattle.body_validator.specs.Exchange.{Steps}
use Rattle.body_validator.specs.Scopes.{with_labels}
use Rattle.body_validator.proofs.Seen.{tries_same}
use Rattle.body_validator.proofs.steps.take_plain.Goals as goal

pub returns-in-Err-Refused : goal.returns-in-Err-Refused
returns-in-Err-Refused c =
    let scope = c.args.scope.now in
    let plain = c.args.plain.now in
    let old = c.args.stack.now in
    let tried = c.take_common.new.stack in
    let answer = applied (rule_of (with_labels scope (labels old)) plain) old in
    let same = tries_same answer c.take_common.result c.in-Err-Refused.field-0 old tried c.in-Err-Refused.is c.take_common.ensures in
    let by_rule = subst (λ (r : Rule). Steps (applied r tried) c.apply.result tried c.apply.new.stack) c.rule_for-rule.ensures c.apply.ensures in
    subst (λ (x : Frames). Steps (applied (rule_of (with_labels scope (labels x)) plain) x) c.apply.result x c.apply.new.stack) same by_rule
