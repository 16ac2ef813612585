use Rattle.std.proofs.Common.{◌≡◌, ◌∙◌, Option, None, Some, sym, subst}
use Rattle.command_words.specs.declared.peek.Peek.{Peek}
use Rattle.io_edges.specs.Streams.{WritesText}
use Rattle.stream_compile.specs.Running.{line_of, shown_after}
use Rattle.stream_compile.specs.Texts.{with_peek}
use Rattle.stream_compile.proofs.writing.write_lines.Goals as goal

pub returns-in-None : goal.returns-in-None
returns-in-None g c =
    let none : shown_after c.args.end c.args.peek ≡ None = sym c.shown_after.ensures ∙ c.in-None.is in
    subst (λ (p : Option Peek). WritesText c.write_line.result (with_peek p c.args.instance.now.memory (line_of c.args.drill c.args.end c.args.instance.now.results).text) (g.O.Sink.written c.args.out.now) (g.O.Sink.written c.write_line.new.out) (g.O.Sink.faults c.args.out.now) (g.O.Sink.faults c.write_line.new.out)) (sym none) c.write_line.ensures.text

pub returns-in-Some : goal.returns-in-Some
returns-in-Some g c =
    let some : shown_after c.args.end c.args.peek ≡ Some c.in-Some.shown = sym c.shown_after.ensures ∙ c.in-Some.is in
    subst (λ (p : Option Peek). WritesText c.write_line_and_bytes.result (with_peek p c.args.instance.now.memory (line_of c.args.drill c.args.end c.args.instance.now.results).text) (g.O.Sink.written c.args.out.now) (g.O.Sink.written c.write_line_and_bytes.new.out) (g.O.Sink.faults c.args.out.now) (g.O.Sink.faults c.write_line_and_bytes.new.out)) (sym some) c.write_line_and_bytes.ensures
