use Rattle.std.proofs.Common.{◌≡◌, ◌-◌, length, reverse, drop, take, ap, ◌∙◌, arith}
use Rattle.body_validator.proofs.Flat.{taken_above}
use Rattle.body_validator.proofs.operands.remove.Goals as goal

pub returns-else-height-base-clause-own : goal.returns-else-height-base-clause-own
returns-else-height-base-clause-own c =
    let items = c.args.operands.now.items in
    let base = c.args.base in
    let count = c.args.count in
    let len : c.len-height.result ≡ length items = omega (arith, c.args.operands.now.ok.0) in
    ap (λ ys. reverse (drop base ys)) c.truncate-else-height-base.ensures.items
    ∙ ap (λ n. reverse (drop base (take (n - count) items))) len ∙ taken_above items base count (omega arith)
