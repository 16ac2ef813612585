use Rattle.std.proofs.Common.{◌<◌, length, arith}
use Rattle.body_validator.proofs.Paired.{length-paired, evenly, topmost}
use Rattle.body_validator.proofs.lists.Lists.topmost.Goals as goal

pub overflow_sub-last : goal.overflow_sub-last
overflow_sub-last c =
    let l = c.args.self.now in
    omega (arith, c.requires, length-paired l.types.items l.below.items (evenly l), l.types.ok.0)

pub index-below-requires : goal.index-below-requires
index-below-requires c =
    let l = c.args.self.now in
    omega (arith, c.requires, length-paired l.types.items l.below.items (evenly l), l.types.ok.0, l.below.ok.0, l.even)

pub returns : goal.returns
returns c =
    let l = c.args.self.now in
    let some : 0 < length l.types.items = omega (arith, c.requires, length-paired l.types.items l.below.items (evenly l)) in
    topmost l c.len-last.result c.index-types.result.now c.index-below.result.now (omega (arith, c.len-last.ensures, l.types.ok.0)) (omega (arith, some, c.len-last.ensures, l.types.ok.0)) c.index-types.ensures c.index-below.ensures
