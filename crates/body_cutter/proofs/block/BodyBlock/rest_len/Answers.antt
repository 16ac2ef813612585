use Rattle.std.proofs.Common.{length, arith}
use Rattle.body_cutter.proofs.Blocks.{end_is, within}
use Rattle.body_cutter.proofs.block.BodyBlock.rest_len.Goals as goal

pub overflow_sub-result : goal.overflow_sub-result
overflow_sub-result c =
    let i = c.self.inside in
    let end = end_is i.cuts.items c.deref.result.now c.len-2.result c.begin_of.result c.begin_of.ensures c.deref.ensures.value (omega (arith, c.len-2.ensures, i.cuts.ok.0)) in
    omega (arith, end, within (length i.bytes.items) 0 i.cuts.items c.self.invariant, c.len.ensures, i.bytes.ok.0)
