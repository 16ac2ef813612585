use Rattle.std.proofs.Common.{◌≡◌, ◌-◌, ap, ◌∙◌}
use Rattle.body_compiler.proofs.BlockTypes.{is_negative, short_reads}
use Rattle.body_compiler.proofs.immediates.block_type.Goals as goal

pub returns : goal.returns
returns c =
    let n = c.in_ok-at.number in
    let d = c.signed.new.self in
    let count : c.saturating_sub.result ≡ d.at - c.in_ok-at.at = c.saturating_sub.ensures ∙ ap (λ k. k - c.in_ok-at.at) c.offset.ensures in
    short_reads c.args.fields.now d c.in_ok-at.at n c.saturating_sub.result _ c.short_type.result c.in_ok-at.ensures.read count c.if-saturating_sub-gt1.false
    (is_negative n c.in_ok-at.ensures.range.0 c.in_ok-at.ensures.range.1 c.if-number-ge0.false) (c.short_type.ensures d)
