use Rattle.std.proofs.Common.{map, Some, reverse}
use Rattle.body_validator.specs.Kept.{spreads}
use Rattle.body_validator.proofs.Laying.{laid_on_top, floor_within}
use Rattle.body_validator.proofs.kept.Operands.put.Goals as goal

pub returns-then-types-lt-LONG-clause-laid : goal.returns-then-types-lt-LONG-clause-laid
returns-then-types-lt-LONG-clause-laid c =
    let o = c.args.self.now in
    laid_on_top (reverse (spreads o.lists)) o.singles.items (map Some c.args.types.now) c.put_all.new.operands.items (floor_within o c.requires.kept) c.put_all.ensures
