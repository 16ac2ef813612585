use Rattle.std.proofs.Common.{◌≡◌, ◌++◌, List, ℕ, subst, rules}
use Rattle.std.specs.Prelude.{codes}
use Rattle.std.specs.Fmt.{decimal}
use Rattle.io_edges.specs.Streams.{WritesText}
use Rattle.stream_compile.specs.Texts.{fault_name}
use Rattle.image_run.proofs.PrintLaws.{writes_then, fails_first}
use Rattle.stream_compile.proofs.writing.write_fault.Goals as goal

pub returns-then-write_all-clause-text : goal.returns-then-write_all-clause-text
returns-then-write_all-clause-text g c =
    let name : c.as_bytes.result.now ≡ fault_name c.args.kind = search rules in
    let place = subst (λ (text : List ℕ). WritesText c.write_place.result (text ++ codes " at " ++ decimal c.args.pc ++ codes "\n") (g.O.Sink.written c.write_all.new.out) (g.O.Sink.written c.write_place.new.out) (g.O.Sink.faults c.write_all.new.out) (g.O.Sink.faults c.write_place.new.out)) name c.write_place.ensures.text in
    writes_then c.write_place.result (codes "machine fault ") (fault_name c.args.kind ++ codes " at " ++ decimal c.args.pc ++ codes "\n") (g.O.Sink.written c.args.out.now) (g.O.Sink.written c.write_all.new.out) (g.O.Sink.written c.write_place.new.out) (g.O.Sink.faults c.args.out.now) (g.O.Sink.faults c.write_all.new.out)
    (g.O.Sink.faults c.write_place.new.out) c.if-write_all.ensures.text place

pub returns-else-write_all-clause-text : goal.returns-else-write_all-clause-text
returns-else-write_all-clause-text g c =
    fails_first (codes "machine fault ") (fault_name c.args.kind ++ codes " at " ++ decimal c.args.pc ++ codes "\n") (g.O.Sink.written c.args.out.now) (g.O.Sink.written c.write_all.new.out) (g.O.Sink.faults c.args.out.now)
    (g.O.Sink.faults c.write_all.new.out) c.if-write_all.ensures.text
