use Rattle.std.proofs.Common.{arith}
use Rattle.module_gen.specs.Drill.{call}
use Rattle.module_gen.proofs.Lists.{call_length, length_more}
use Rattle.module_gen.proofs.drill.calls_size.Goals as goal

pub loop-i-preserved : goal.loop-i-preserved
loop-i-preserved c =
    let i = c.loop-i.i in
    (omega (arith, c.loop-i.invariant.0, length_more call i, call_length i, c.spelling_size.ensures.value), omega (arith, c.loop-i.invariant.1, c.spelling_size.ensures.few))
