use Rattle.std.proofs.Common.{◌≡◌, ◌++◌, List, ℕ, subst, rules}
use Rattle.std.specs.Prelude.{codes, true, false}
use Rattle.std.specs.Fmt.{decimal, signed_decimal}
use Rattle.io_edges.specs.Streams.{WritesText}
use Rattle.image_run.proofs.PrintLaws.{writes_then, fails_first}
use Rattle.stream_compile.proofs.writing.write_drill_line.Goals as goal

pub returns-then-write_both-clause-text : goal.returns-then-write_both-clause-text
returns-then-write_both-clause-text g c =
    let count : c.as_bytes.result.now ≡ decimal c.args.functions = search rules in
    let number : c.as_bytes-then-write_both.result.now ≡ signed_decimal c.args.value = search rules in
    let front = subst (λ (text : List ℕ). WritesText true (codes "functions " ++ text) (g.O.Sink.written c.args.out.now) (g.O.Sink.written c.write_both.new.out) (g.O.Sink.faults c.args.out.now) (g.O.Sink.faults c.write_both.new.out)) count c.if-write_both.ensures.text in
    let back = subst (λ (text : List ℕ). WritesText c.write_number.result (codes " result " ++ (text ++ codes "\n")) (g.O.Sink.written c.write_both.new.out) (g.O.Sink.written c.write_number.new.out) (g.O.Sink.faults c.write_both.new.out) (g.O.Sink.faults c.write_number.new.out)) number c.write_number.ensures.text in
    writes_then c.write_number.result (codes "functions " ++ decimal c.args.functions) (codes " result " ++ (signed_decimal c.args.value ++ codes "\n")) (g.O.Sink.written c.args.out.now) (g.O.Sink.written c.write_both.new.out) (g.O.Sink.written c.write_number.new.out)
    (g.O.Sink.faults c.args.out.now) (g.O.Sink.faults c.write_both.new.out) (g.O.Sink.faults c.write_number.new.out) front back

pub returns-else-write_both-clause-text : goal.returns-else-write_both-clause-text
returns-else-write_both-clause-text g c =
    let count : c.as_bytes.result.now ≡ decimal c.args.functions = search rules in
    let front = subst (λ (text : List ℕ). WritesText false (codes "functions " ++ text) (g.O.Sink.written c.args.out.now) (g.O.Sink.written c.write_both.new.out) (g.O.Sink.faults c.args.out.now) (g.O.Sink.faults c.write_both.new.out)) count c.if-write_both.ensures.text in
    fails_first (codes "functions " ++ decimal c.args.functions) (codes " result " ++ (signed_decimal c.args.value ++ codes "\n")) (g.O.Sink.written c.args.out.now) (g.O.Sink.written c.write_both.new.out) (g.O.Sink.faults c.args.out.now) (g.O.Sink.faults c.write_both.new.out) front
