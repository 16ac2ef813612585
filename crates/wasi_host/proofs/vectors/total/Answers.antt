use Rattle.std.proofs.Common.{◌∙◌, arith, rules}
use Rattle.wasi_host.proofs.VectorLaws.{summed}
use Rattle.wasi_host.proofs.vectors.total.Goals as goal

pub loop-left-preserved : goal.loop-left-preserved
loop-left-preserved c = record {
  same = c.loop-left.invariant.same ∙ summed c.args.memory.now c.loop-left.address c.loop-left.left c.loop-left.sum c.in_ok-vector.vector.now c.loop-left-test.true (search rules);
  most = omega (arith, c.loop-left.invariant.most, c.in_ok-vector.ensures.len);
  at = omega (arith, c.loop-left.invariant.at, c.loop-left-test.true);
  few = c.loop-left.invariant.few;
}
