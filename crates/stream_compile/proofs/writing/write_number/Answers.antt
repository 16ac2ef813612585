use Rattle.std.proofs.Common.{◌++◌, ◌∷◌, []}
use Rattle.image_run.proofs.PrintLaws.{writes_then}
use Rattle.stream_compile.proofs.writing.write_number.Goals as goal

pub returns-then-write_all-clause-text : goal.returns-then-write_all-clause-text
returns-then-write_all-clause-text g c =
    writes_then c.write_both.result c.args.front.now (c.args.number.now ++ 10 ∷ []) (g.O.Sink.written c.args.out.now) (g.O.Sink.written c.write_all.new.out) (g.O.Sink.written c.write_both.new.out) (g.O.Sink.faults c.args.out.now) (g.O.Sink.faults c.write_all.new.out)
    (g.O.Sink.faults c.write_both.new.out) c.if-write_all.ensures.text c.write_both.ensures.text
