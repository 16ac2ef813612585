use Rattle.std.proofs.Common.{◌-◌, List, ℕ, sym, subst, arith}
use Rattle.io_edges.specs.Streams.{WritesText}
use Rattle.stream_compile.specs.Texts.{Outcome}
use Rattle.stream_compile.proofs.ValueLines.{none_returned, some_returned}
use Rattle.stream_compile.proofs.writing.write_returned.Goals as goal

pub returns-then-count-eq0-clause-text : goal.returns-then-count-eq0-clause-text
returns-then-count-eq0-clause-text g c =
    let none = none_returned c.args.instance.now.results (omega (arith, c.requires.count, c.if-count-eq0.true)) in
    subst (λ (o : Outcome). WritesText c.write_all.result o.text (g.O.Sink.written c.args.out.now) (g.O.Sink.written c.write_all.new.out) (g.O.Sink.faults c.args.out.now) (g.O.Sink.faults c.write_all.new.out)) (sym none) c.write_all.ensures.text

pub returns-else-count-eq0-clause-text : goal.returns-else-count-eq0-clause-text
returns-else-count-eq0-clause-text g c =
    let some = some_returned c.args.instance.now.results (c.args.count - 1) (omega (arith, c.requires.count, c.if-count-eq0.false)) in
    subst (λ (l : List ℕ). WritesText c.write_values.result l (g.O.Sink.written c.args.out.now) (g.O.Sink.written c.write_values.new.out) (g.O.Sink.faults c.args.out.now) (g.O.Sink.faults c.write_values.new.out)) (sym some) c.write_values.ensures.text
