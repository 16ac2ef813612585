use Rattle.std.proofs.Common.{◌+◌, Bool, true, List, take, refl, sym, subst, arith}
use Rattle.std.specs.List.{flat_map}
use Rattle.std.proofs.lemmas.List.{take_all}
use Rattle.io_edges.proofs.Known.{append_nothing}
use Rattle.io_edges.specs.Streams.{WritesText}
use Rattle.wasm_defs.specs.Values.{Value, value_of}
use Rattle.stream_compile.specs.Texts.{value_line}
use Rattle.stream_compile.proofs.ValueLines.{lines_failed, lines_step}
use Rattle.stream_compile.proofs.writing.write_values.Goals as goal

pub loop-index-init : goal.loop-index-init
loop-index-init g c = record { wrote = sym (append_nothing (g.O.Sink.written c.args.out.now)); same = refl; open_now = c.requires.open }

pub loop-index-preserved : goal.loop-index-preserved
loop-index-preserved g c =
    let values = c.args.instance.now.results in
    let i = c.loop-index.index in
    let step = lines_step c.write_value.result values i (value_of c.result.result) (g.O.Sink.written c.args.out.now) (g.O.Sink.written c.loop-index.out) (g.O.Sink.written c.write_value.new.out) (g.O.Sink.faults c.args.out.now) (g.O.Sink.faults c.loop-index.out) (g.O.Sink.faults c.write_value.new.out)
    c.result.ensures (c.loop-index.invariant.wrote, c.loop-index.invariant.same) c.write_value.ensures.text in
    let whole : WritesText true (flat_map value_line (take (i + 1) values)) (g.O.Sink.written c.args.out.now) (g.O.Sink.written c.write_value.new.out) (g.O.Sink.faults c.args.out.now) (g.O.Sink.faults c.write_value.new.out) =
    subst (λ (r : Bool). WritesText r (flat_map value_line (take (i + 1) values)) (g.O.Sink.written c.args.out.now) (g.O.Sink.written c.write_value.new.out) (g.O.Sink.faults c.args.out.now) (g.O.Sink.faults c.write_value.new.out)) c.if-not-write_value.false step in
    record { wrote = whole.0; same = whole.1; open_now = c.write_value.ensures.open c.if-not-write_value.false }

pub returns-then-not-write_value-clause-text : goal.returns-then-not-write_value-clause-text
returns-then-not-write_value-clause-text g c =
    let values = c.args.instance.now.results in
    let i = c.loop-index.index in
    let step = lines_step c.write_value.result values i (value_of c.result.result) (g.O.Sink.written c.args.out.now) (g.O.Sink.written c.loop-index.out) (g.O.Sink.written c.write_value.new.out) (g.O.Sink.faults c.args.out.now) (g.O.Sink.faults c.loop-index.out) (g.O.Sink.faults c.write_value.new.out)
    c.result.ensures (c.loop-index.invariant.wrote, c.loop-index.invariant.same) c.write_value.ensures.text in
    lines_failed values (i + 1) (g.O.Sink.written c.args.out.now) (g.O.Sink.written c.write_value.new.out) (g.O.Sink.faults c.args.out.now) (g.O.Sink.faults c.write_value.new.out)
    (subst (λ (r : Bool). WritesText r (flat_map value_line (take (i + 1) values)) (g.O.Sink.written c.args.out.now) (g.O.Sink.written c.write_value.new.out) (g.O.Sink.faults c.args.out.now) (g.O.Sink.faults c.write_value.new.out)) c.if-not-write_value.true step)

pub returns-clause-text : goal.returns-clause-text
returns-clause-text g c =
    subst (λ (l : List Value). WritesText true (flat_map value_line l) (g.O.Sink.written c.args.out.now) (g.O.Sink.written c.loop-index.out) (g.O.Sink.faults c.args.out.now) (g.O.Sink.faults c.loop-index.out))
    (take_all c.loop-index.index c.args.instance.now.results (omega (arith, c.loop-index-test.false, c.requires.count))) (c.loop-index.invariant.wrote, c.loop-index.invariant.same)
