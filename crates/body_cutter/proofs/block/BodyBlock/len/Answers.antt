use Rattle.std.proofs.Common.{ℕ, List, length, ap, arith}
use Rattle.body_cutter.proofs.Blocks.{bytes_are}
use Rattle.body_cutter.proofs.block.BodyBlock.len.Goals as goal

pub returns : goal.returns
returns c =
    let i = c.self.inside in
    omega (arith, c.len.ensures, i.bytes.ok.0, ap (λ (l : List ℕ). length l) (bytes_are i.bytes.items i.cuts.items c.args.self.now c.self.view_is c.self.invariant))
