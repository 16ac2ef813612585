use Rattle.std.specs.List.{flat_map}
use Rattle.image_run.proofs.PrintLaws.{writes_then, fails_first}
use Rattle.stream_compile.proofs.image_pieces.write_list.Goals as goal

pub returns-then-write_all-clause-text : goal.returns-then-write_all-clause-text
returns-then-write_all-clause-text g c =
    writes_then c.write_items.result c.args.front.now (flat_map g.T.FixedSize.encoding c.args.items.now) (g.O.Sink.written c.args.out.now) (g.O.Sink.written c.write_all.new.out) (g.O.Sink.written c.write_items.new.out) (g.O.Sink.faults c.args.out.now) (g.O.Sink.faults c.write_all.new.out) (g.O.Sink.faults c.write_items.new.out) c.if-write_all.ensures.text c.write_items.ensures.text

pub returns-else-write_all-clause-text : goal.returns-else-write_all-clause-text
returns-else-write_all-clause-text g c =
    fails_first c.args.front.now (flat_map g.T.FixedSize.encoding c.args.items.now) (g.O.Sink.written c.args.out.now) (g.O.Sink.written c.write_all.new.out) (g.O.Sink.faults c.args.out.now) (g.O.Sink.faults c.write_all.new.out) c.if-write_all.ensures.text
