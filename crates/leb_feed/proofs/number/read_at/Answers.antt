use Rattle.std.proofs.Common.{drop, arith}
use Rattle.leb_feed.proofs.Readings.{Says, all_said, bytes_after}
use Rattle.leb_feed.proofs.number.read_at.Goals as goal

said : (c : goal.After-number_from) → Says c.args.signed c.args.bits c.args.place (drop c.args.place c.args.bytes.now) c.number_from.result
said c =
    let rest = drop c.args.place c.args.bytes.now in
    let fits = bytes_after c.args.place c.args.bytes.now (λ i. omega (arith, c.type_inv.bytes i)) in
    all_said c.args.signed c.args.bits c.args.place rest c.number_from.result fits c.number_from.ensures.exact

pub returns-clause-number : goal.returns-clause-number
returns-clause-number c = (said c).0

pub returns-clause-cut_off : goal.returns-clause-cut_off
returns-clause-cut_off c = (said c).1

pub returns-clause-bad : goal.returns-clause-bad
returns-clause-bad c = (said c).2
