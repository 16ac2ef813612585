use Rattle.std.proofs.Common.{sym, subst, arith}
use Rattle.io_edges.specs.Streams.{WritesText}
use Rattle.wasm_defs.specs.Values.{value_of}
use Rattle.stream_compile.specs.Texts.{Outcome}
use Rattle.stream_compile.proofs.ValueLines.{first_drilled, none_drilled}
use Rattle.stream_compile.proofs.writing.write_drilled.Goals as goal

pub returns-then-count-eq0-clause-text : goal.returns-then-count-eq0-clause-text
returns-then-count-eq0-clause-text g c =
    let none = none_drilled c.args.functions c.args.instance.now.results (omega (arith, c.requires.count, c.if-count-eq0.true)) in
    subst (λ (o : Outcome). WritesText c.write_all.result o.text (g.O.Sink.written c.args.out.now) (g.O.Sink.written c.write_all.new.out) (g.O.Sink.faults c.args.out.now) (g.O.Sink.faults c.write_all.new.out)) (sym none) c.write_all.ensures.text

pub returns-else-count-eq0-clause-text : goal.returns-else-count-eq0-clause-text
returns-else-count-eq0-clause-text g c =
    let first = first_drilled c.args.functions c.args.instance.now.results (value_of c.result.result) c.result.ensures in
    subst (λ (o : Outcome). WritesText c.write_drilled_value.result o.text (g.O.Sink.written c.args.out.now) (g.O.Sink.written c.write_drilled_value.new.out) (g.O.Sink.faults c.args.out.now) (g.O.Sink.faults c.write_drilled_value.new.out)) first c.write_drilled_value.ensures.text
