use Rattle.std.specs.Prelude.{codes}
use Rattle.stream_compile.specs.Texts.{hex_of}
use Rattle.image_run.proofs.PrintLaws.{writes_then, fails_first}
use Rattle.stream_compile.proofs.shown.write_hex_line.Goals as goal

pub returns-then-write_hex : goal.returns-then-write_hex
returns-then-write_hex g c =
    writes_then c.write_all.result (hex_of c.args.bytes.now) (codes "\n") (g.O.Sink.written c.args.out.now) (g.O.Sink.written c.write_hex.new.out) (g.O.Sink.written c.write_all.new.out) (g.O.Sink.faults c.args.out.now) (g.O.Sink.faults c.write_hex.new.out) (g.O.Sink.faults c.write_all.new.out) c.if-write_hex.ensures.text c.write_all.ensures.text

pub returns-else-write_hex : goal.returns-else-write_hex
returns-else-write_hex g c =
    fails_first (hex_of c.args.bytes.now) (codes "\n") (g.O.Sink.written c.args.out.now) (g.O.Sink.written c.write_hex.new.out) (g.O.Sink.faults c.args.out.now) (g.O.Sink.faults c.write_hex.new.out) c.if-write_hex.ensures.text
