use Rattle.std.specs.Prelude.{◌++◌, codes}
use Rattle.stream_compile.specs.Texts.{hex_of}
use Rattle.image_run.proofs.PrintLaws.{writes_then, fails_first}
use Rattle.stream_compile.proofs.shown.write_bytes.Goals as goal

pub returns-then-write_all : goal.returns-then-write_all
returns-then-write_all g c =
    writes_then c.write_hex_line.result (codes "peek ") (hex_of c.args.bytes.now ++ codes "\n") (g.O.Sink.written c.args.out.now) (g.O.Sink.written c.write_all.new.out) (g.O.Sink.written c.write_hex_line.new.out) (g.O.Sink.faults c.args.out.now) (g.O.Sink.faults c.write_all.new.out) (g.O.Sink.faults c.write_hex_line.new.out) c.if-write_all.ensures.text c.write_hex_line.ensures

pub returns-else-write_all : goal.returns-else-write_all
returns-else-write_all g c =
    fails_first (codes "peek ") (hex_of c.args.bytes.now ++ codes "\n") (g.O.Sink.written c.args.out.now) (g.O.Sink.written c.write_all.new.out) (g.O.Sink.faults c.args.out.now) (g.O.Sink.faults c.write_all.new.out) c.if-write_all.ensures.text
