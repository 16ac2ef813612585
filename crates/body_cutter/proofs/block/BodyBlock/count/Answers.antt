use Rattle.std.proofs.Common.{length, ap, arith}
use Rattle.body_cutter.specs.Bodies.{Block}
use Rattle.body_cutter.proofs.Blocks.{count}
use Rattle.body_cutter.proofs.block.BodyBlock.count.Goals as goal

pub returns : goal.returns
returns c =
    let i = c.self.inside in
    omega (arith, c.len.ensures, i.cuts.ok.0, count i.bytes.items 0 i.cuts.items, ap (λ (b : Block). length b.bodies) c.self.view_is)
