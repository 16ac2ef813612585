use Rattle.body_cutter.proofs.Blocks.{cut_back}
use Rattle.body_cutter.proofs.block.BodyBlock.cut_back.Goals as goal

pub invariant_of-self : goal.invariant_of-self
invariant_of-self c =
    let i = c.self.inside in
    (cut_back i.bytes.items i.cuts.items c.args.self.now c.self.view_is c.self.invariant c.args.mark c.requires.0 c.requires.1 c.requires.2 _ c.truncate-2.ensures.items _ c.truncate.ensures.items).1

pub returns : goal.returns
returns c saved marked begins =
    let i = c.self.inside in
    (cut_back i.bytes.items i.cuts.items c.args.self.now c.self.view_is c.self.invariant c.args.mark saved marked begins _ c.truncate-2.ensures.items _ c.truncate.ensures.items).0
