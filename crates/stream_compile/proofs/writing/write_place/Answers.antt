use Rattle.std.proofs.Common.{◌≡◌, ◌++◌, List, ℕ, sym, ◌∙◌, subst, append_assoc, rules}
use Rattle.std.specs.Prelude.{codes}
use Rattle.std.specs.Fmt.{decimal}
use Rattle.io_edges.specs.Streams.{WritesText}
use Rattle.image_run.proofs.PrintLaws.{writes_then}
use Rattle.stream_compile.proofs.writing.write_place.Goals as goal

pub returns-then-write_all-clause-text : goal.returns-then-write_all-clause-text
returns-then-write_all-clause-text g c =
    let digits : c.as_bytes.result.now ≡ decimal c.args.pc = search rules in
    let number = subst (λ (text : List ℕ). WritesText c.write_number.result (codes " at " ++ (text ++ codes "\n")) (g.O.Sink.written c.write_all.new.out) (g.O.Sink.written c.write_number.new.out) (g.O.Sink.faults c.write_all.new.out) (g.O.Sink.faults c.write_number.new.out)) digits c.write_number.ensures.text in
    let parts = append_assoc (c.args.name.now ++ codes " at ") (decimal c.args.pc) (codes "\n") ∙ append_assoc c.args.name.now (codes " at ") (decimal c.args.pc ++ codes "\n") in
    let all =
    writes_then c.write_number.result c.args.name.now (codes " at " ++ (decimal c.args.pc ++ codes "\n")) (g.O.Sink.written c.args.out.now) (g.O.Sink.written c.write_all.new.out) (g.O.Sink.written c.write_number.new.out) (g.O.Sink.faults c.args.out.now) (g.O.Sink.faults c.write_all.new.out)
    (g.O.Sink.faults c.write_number.new.out) c.if-write_all.ensures.text number in
    subst (λ (text : List ℕ). WritesText c.write_number.result text (g.O.Sink.written c.args.out.now) (g.O.Sink.written c.write_number.new.out) (g.O.Sink.faults c.args.out.now) (g.O.Sink.faults c.write_number.new.out)) (sym parts) all
