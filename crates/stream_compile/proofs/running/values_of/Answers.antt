use Rattle.std.proofs.Common.{arith}
use Rattle.std.proofs.lemmas.Grind.{common_steps}
use Rattle.stream_compile.proofs.ImageCalls.{pushed}
use Rattle.stream_compile.proofs.running.values_of.Goals as goal

pub loop-argument-preserved : goal.loop-argument-preserved
loop-argument-preserved c = (
  grind (arith, common_steps),
  pushed c.loop-argument.values.items c.push.new.self.items c.value_of.result c.in_ok-push.ensures.items c.loop-argument.invariant.1 c.value_of.ensures.range,
)
