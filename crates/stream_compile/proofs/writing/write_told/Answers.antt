use Rattle.std.proofs.Common.{◌≡◌, ◌++◌, List, ℕ, subst, rules}
use Rattle.std.specs.Prelude.{codes}
use Rattle.std.specs.Fmt.{decimal}
use Rattle.io_edges.specs.Streams.{WritesText}
use Rattle.image_run.proofs.PrintLaws.{writes_then, fails_first}
use Rattle.stream_compile.proofs.writing.write_told.Goals as goal

pub returns-then-write_all-clause-text : goal.returns-then-write_all-clause-text
returns-then-write_all-clause-text g c =
    let digits : c.as_bytes.result.now ≡ decimal c.args.function = search rules in
    let place = subst (λ (text : List ℕ). WritesText c.write_place.result (text ++ codes " at " ++ decimal c.args.offset ++ codes "\n") (g.O.Sink.written c.write_all.new.out) (g.O.Sink.written c.write_place.new.out) (g.O.Sink.faults c.write_all.new.out) (g.O.Sink.faults c.write_place.new.out)) digits c.write_place.ensures.text in
    writes_then c.write_place.result (codes " in function ") (decimal c.args.function ++ codes " at " ++ decimal c.args.offset ++ codes "\n") (g.O.Sink.written c.args.out.now) (g.O.Sink.written c.write_all.new.out) (g.O.Sink.written c.write_place.new.out) (g.O.Sink.faults c.args.out.now) (g.O.Sink.faults c.write_all.new.out)
    (g.O.Sink.faults c.write_place.new.out) c.if-write_all.ensures.text place

pub returns-else-write_all-clause-text : goal.returns-else-write_all-clause-text
returns-else-write_all-clause-text g c =
    fails_first (codes " in function ") (decimal c.args.function ++ codes " at " ++ decimal c.args.offset ++ codes "\n") (g.O.Sink.written c.args.out.now) (g.O.Sink.written c.write_all.new.out) (g.O.Sink.faults c.args.out.now) (g.O.Sink.faults c.write_all.new.out) c.if-write_all.ensures.text
