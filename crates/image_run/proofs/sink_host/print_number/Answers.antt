use Rattle.std.proofs.Common.{◌≡◌, ℕ, true, List, [], ◌∷◌, subst, rules}
use Rattle.std.specs.Fmt.{signed_decimal}
use Rattle.io_edges.specs.Streams.{WritesText}
use Rattle.image_run.proofs.PrintLaws.{writes_then}
use Rattle.image_run.proofs.sink_host.print_number.Goals as goal

pub returns-then-write_all-clause-text : goal.returns-then-write_all-clause-text
returns-then-write_all-clause-text g c =
    let digits : c.as_bytes.result.now ≡ signed_decimal c.args.number = search rules in
    let first = subst (λ (text : List ℕ). WritesText true text (g.O.Sink.written c.args.out.now) (g.O.Sink.written c.write_all.new.out) (g.O.Sink.faults c.args.out.now) (g.O.Sink.faults c.write_all.new.out)) digits c.if-write_all.ensures.text in
    writes_then c.write_all-then-write_all.result (signed_decimal c.args.number) (10 ∷ []) (g.O.Sink.written c.args.out.now) (g.O.Sink.written c.write_all.new.out) (g.O.Sink.written c.write_all-then-write_all.new.out)
    (g.O.Sink.faults c.args.out.now) (g.O.Sink.faults c.write_all.new.out) (g.O.Sink.faults c.write_all-then-write_all.new.out) first c.write_all-then-write_all.ensures.text
