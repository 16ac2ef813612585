use Rattle.std.proofs.Common.{arith}
use Rattle.body_cutter.proofs.Blocks.{end_before}
use Rattle.body_cutter.proofs.block.begin_of.Goals as goal

pub returns-in_default : goal.returns-in_default
returns-in_default c = end_before c.args.cuts.now c.args.index _ (omega arith) c.requires
