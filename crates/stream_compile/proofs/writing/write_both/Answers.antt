use Rattle.image_run.proofs.PrintLaws.{writes_then}
use Rattle.stream_compile.proofs.writing.write_both.Goals as goal

pub returns-then-write_all-clause-text : goal.returns-then-write_all-clause-text
returns-then-write_all-clause-text g c =
    writes_then c.write_all-then-write_all.result c.args.first.now c.args.second.now (g.O.Sink.written c.args.out.now) (g.O.Sink.written c.write_all.new.out) (g.O.Sink.written c.write_all-then-write_all.new.out) (g.O.Sink.faults c.args.out.now) (g.O.Sink.faults c.write_all.new.out)
    (g.O.Sink.faults c.write_all-then-write_all.new.out) c.if-write_all.ensures.text c.write_all-then-write_all.ensures.text
