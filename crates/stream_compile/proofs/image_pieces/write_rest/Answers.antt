use Rattle.std.specs.Prelude.{◌++◌}
use Rattle.std.specs.List.{flat_map}
use Rattle.image_format.specs.ImageBytes.{place}
use Rattle.image_run.proofs.PrintLaws.{writes_then, fails_first}
use Rattle.stream_compile.proofs.image_pieces.write_rest.Goals as goal

pub returns-then-write_list : goal.returns-then-write_list
returns-then-write_list g c =
    writes_then c.write_both.result (c.args.front.now ++ flat_map place c.args.places.now) (c.args.count.now ++ c.args.passive.now) (g.O.Sink.written c.args.out.now) (g.O.Sink.written c.write_list.new.out) (g.O.Sink.written c.write_both.new.out) (g.O.Sink.faults c.args.out.now) (g.O.Sink.faults c.write_list.new.out) (g.O.Sink.faults c.write_both.new.out) c.if-write_list.ensures.text c.write_both.ensures.text

pub returns-else-write_list : goal.returns-else-write_list
returns-else-write_list g c =
    fails_first (c.args.front.now ++ flat_map place c.args.places.now) (c.args.count.now ++ c.args.passive.now) (g.O.Sink.written c.args.out.now) (g.O.Sink.written c.write_list.new.out) (g.O.Sink.faults c.args.out.now) (g.O.Sink.faults c.write_list.new.out) c.if-write_list.ensures.text
