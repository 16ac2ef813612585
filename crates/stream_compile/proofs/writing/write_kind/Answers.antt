use Rattle.std.proofs.Common.{◌≡◌, List, ℕ, true, false, subst, rules}
use Rattle.wasm_defs.specs.Values.{trap_text}
use Rattle.io_edges.specs.Streams.{WritesText}
use Rattle.stream_compile.specs.Texts.{trap_place}
use Rattle.image_run.proofs.PrintLaws.{writes_then, fails_first}
use Rattle.stream_compile.proofs.writing.write_kind.Goals as goal

pub returns-then-write_all-clause-text : goal.returns-then-write_all-clause-text
returns-then-write_all-clause-text g c =
    let name : c.as_bytes.result.now ≡ trap_text c.args.kind = search rules in
    let first = subst (λ (text : List ℕ). WritesText true text (g.O.Sink.written c.args.out.now) (g.O.Sink.written c.write_all.new.out) (g.O.Sink.faults c.args.out.now) (g.O.Sink.faults c.write_all.new.out)) name c.if-write_all.ensures.text in
    writes_then c.write_trap_place.result (trap_text c.args.kind) (trap_place c.args.place) (g.O.Sink.written c.args.out.now) (g.O.Sink.written c.write_all.new.out) (g.O.Sink.written c.write_trap_place.new.out) (g.O.Sink.faults c.args.out.now) (g.O.Sink.faults c.write_all.new.out)
    (g.O.Sink.faults c.write_trap_place.new.out) first c.write_trap_place.ensures.text

pub returns-else-write_all-clause-text : goal.returns-else-write_all-clause-text
returns-else-write_all-clause-text g c =
    let name : c.as_bytes.result.now ≡ trap_text c.args.kind = search rules in
    let first = subst (λ (text : List ℕ). WritesText false text (g.O.Sink.written c.args.out.now) (g.O.Sink.written c.write_all.new.out) (g.O.Sink.faults c.args.out.now) (g.O.Sink.faults c.write_all.new.out)) name c.if-write_all.ensures.text in
    fails_first (trap_text c.args.kind) (trap_place c.args.place) (g.O.Sink.written c.args.out.now) (g.O.Sink.written c.write_all.new.out) (g.O.Sink.faults c.args.out.now) (g.O.Sink.faults c.write_all.new.out) first
