use Rattle.std.proofs.Common.{◌≡◌, ◌-◌, reverse, ap, ◌∙◌, arith}
use Rattle.body_validator.specs.Kept.{spreads, laid_out, floor_of}
use Rattle.body_validator.proofs.Laying.{laid_to, flat_length}
use Rattle.body_validator.proofs.kept.Operands.cut.Goals as goal

pub returns-clause-left : goal.returns-clause-left
returns-clause-left c =
    let o = c.loop-self.self in
    let i = c.loop-self.invariant in
    let floor : c.floor.result ≡ floor_of (reverse (spreads o.lists)) = c.floor.ensures in
    ap (laid_out (reverse (spreads o.lists))) c.truncate.ensures.items
    ∙ laid_to (reverse (spreads o.lists)) o.singles.items c.args.height (c.args.height - o.listed) (omega (arith, floor, c.loop-self-test.false))
    (omega (arith, flat_length o i.kept, i.within)) (omega (arith, floor, c.loop-self-test.false, i.kept.listed)) ∙ i.same
