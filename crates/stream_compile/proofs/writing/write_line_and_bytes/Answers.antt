use Rattle.stream_compile.specs.Running.{line_of}
use Rattle.stream_compile.specs.Texts.{peeked}
use Rattle.image_run.proofs.PrintLaws.{writes_then, fails_first}
use Rattle.stream_compile.proofs.writing.write_line_and_bytes.Goals as goal

pub returns-then-write_line : goal.returns-then-write_line
returns-then-write_line g c =
    writes_then c.write_shown.result (line_of c.args.drill c.args.end c.args.instance.now.results).text (peeked c.args.shown c.args.instance.now.memory) (g.O.Sink.written c.args.out.now) (g.O.Sink.written c.write_line.new.out) (g.O.Sink.written c.write_shown.new.out) (g.O.Sink.faults c.args.out.now) (g.O.Sink.faults c.write_line.new.out) (g.O.Sink.faults c.write_shown.new.out) c.if-write_line.ensures.text (rw c.memory.ensures at c.write_shown.ensures)

pub returns-else-write_line : goal.returns-else-write_line
returns-else-write_line g c =
    fails_first (line_of c.args.drill c.args.end c.args.instance.now.results).text (peeked c.args.shown c.args.instance.now.memory) (g.O.Sink.written c.args.out.now) (g.O.Sink.written c.write_line.new.out) (g.O.Sink.faults c.args.out.now) (g.O.Sink.faults c.write_line.new.out) c.if-write_line.ensures.text
