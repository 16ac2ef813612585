use Rattle.std.proofs.Common.{length, length-drop, refl, arith}
use Rattle.leb_feed.proofs.Casts.{grown, few}
use Rattle.leb_feed.proofs.fields.+least.Goals as goal

pub overflow_mul-result : goal.overflow_mul-result
overflow_mul-result t c =
    let small = few _ _ c.least.result c.least.ensures.small refl (omega (arith, length-drop 1 c.args.bytes.now)) in
    omega arith

pub returns-in-len1-up-clause-small : goal.returns-in-len1-up-clause-small
returns-in-len1-up-clause-small t c =
    grown (length c.args.bytes.now) c.from.result c.least.result _ c.least.ensures.small (omega (arith, length-drop 1 c.args.bytes.now, c.in-len1-up.len_at_least)) (omega (arith, c.type_inv.bytes 0))
