use Rattle.std.proofs.Common.{refl, arith, rules}
use Rattle.wasi_host.specs.Vectors.{gathered}
use Rattle.wasi_host.proofs.VectorLaws.{begun, some_bytes, went_on, failed}
use Rattle.wasi_host.proofs.vectors.write_vectors.Goals as goal

pub loop-left-init : goal.loop-left-init
loop-left-init g c =
    let some = some_bytes (gathered c.args.memory.now c.args.iovs c.args.iovs_len) c.requires.inside in
    let first = begun c.args.memory.now c.args.iovs c.args.iovs_len some.0 (g.O.Sink.written c.args.out.now) (g.O.Sink.faults c.args.out.now) some.1 in
    record {
      writing = rw c.from-address.ensures first;
      at = omega arith;
      few = c.requires.few;
      open_now = c.requires.open;
    }

pub returns-then-not-write_all-clause-bytes : goal.returns-then-not-write_all-clause-bytes
returns-then-not-write_all-clause-bytes g c =
    failed c.args.memory.now c.args.iovs c.args.iovs_len c.loop-left.address c.loop-left.left c.in-Some.vector.now (g.O.Sink.written c.args.out.now) (g.O.Sink.written c.loop-left.out) (g.O.Sink.written c.write_all.new.out)
    (g.O.Sink.faults c.args.out.now) (g.O.Sink.faults c.loop-left.out) (g.O.Sink.faults c.write_all.new.out) c.loop-left.invariant.writing c.loop-left-test.true (search rules) c.if-not-write_all.ensures.text

pub loop-left-preserved : goal.loop-left-preserved
loop-left-preserved g c = record {
  writing =
      went_on c.args.memory.now c.args.iovs c.args.iovs_len c.loop-left.address c.loop-left.left c.in-Some.vector.now (g.O.Sink.written c.args.out.now) (g.O.Sink.written c.loop-left.out) (g.O.Sink.written c.write_all.new.out)
      (g.O.Sink.faults c.args.out.now) (g.O.Sink.faults c.loop-left.out) (g.O.Sink.faults c.write_all.new.out) c.loop-left.invariant.writing c.loop-left-test.true (search rules) c.if-not-write_all.ensures.text;
  at = omega (arith, c.loop-left.invariant.at, c.loop-left-test.true);
  few = c.loop-left.invariant.few;
  open_now = c.if-not-write_all.ensures.open refl;
}
