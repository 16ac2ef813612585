use Rattle.std.proofs.Common.{◌++◌}
use Rattle.std.specs.Prelude.{codes}
use Rattle.wasm_defs.specs.Values.{trap_text}
use Rattle.stream_compile.specs.Texts.{trap_place}
use Rattle.image_run.proofs.PrintLaws.{writes_then, fails_first}
use Rattle.stream_compile.proofs.writing.write_trap.Goals as goal

pub returns-then-write_all-clause-text : goal.returns-then-write_all-clause-text
returns-then-write_all-clause-text g c =
    writes_then c.write_kind.result (codes "trap ") (trap_text c.args.kind ++ trap_place c.args.place) (g.O.Sink.written c.args.out.now) (g.O.Sink.written c.write_all.new.out) (g.O.Sink.written c.write_kind.new.out) (g.O.Sink.faults c.args.out.now) (g.O.Sink.faults c.write_all.new.out)
    (g.O.Sink.faults c.write_kind.new.out) c.if-write_all.ensures.text c.write_kind.ensures.text

pub returns-else-write_all-clause-text : goal.returns-else-write_all-clause-text
returns-else-write_all-clause-text g c =
    fails_first (codes "trap ") (trap_text c.args.kind ++ trap_place c.args.place) (g.O.Sink.written c.args.out.now) (g.O.Sink.written c.write_all.new.out) (g.O.Sink.faults c.args.out.now) (g.O.Sink.faults c.write_all.new.out) c.if-write_all.ensures.text
