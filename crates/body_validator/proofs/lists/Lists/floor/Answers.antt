use Rattle.std.proofs.Common.{reverse, ap, sym, List, arith}
use Rattle.body_validator.specs.declared.lists.Spread.{Spread}
use Rattle.body_validator.specs.Kept.{floor_of, spreads}
use Rattle.body_validator.proofs.Laying.{floor_at}
use Rattle.body_validator.proofs.Paired.{length-paired, none-paired, evenly}
use Rattle.body_validator.proofs.lists.Lists.floor.Goals as goal

pub returns-then-len-eq0 : goal.returns-then-len-eq0
returns-then-len-eq0 c =
    let l = c.args.self.now in
    sym (ap (λ (x : List Spread). floor_of (reverse x)) (none-paired l.types.items l.below.items (omega (arith, c.len.ensures, c.if-len-eq0.true, l.types.ok.0))))

pub topmost-requires : goal.topmost-requires
topmost-requires c =
    let l = c.args.self.now in
    omega (arith, length-paired l.types.items l.below.items (evenly l), c.len.ensures, c.if-len-eq0.false, l.types.ok.0)

pub returns : goal.returns
returns c = sym (floor_at (reverse (spreads c.args.self.now)) c.topmost.result c.topmost.ensures)
