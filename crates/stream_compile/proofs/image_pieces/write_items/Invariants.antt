use Rattle.std.proofs.Common.{◌≡◌, ◌≤◌, ◌-◌, true, length, take}
use Rattle.std.specs.List.{flat_map}
use Rattle.std.specs.Io.KnownBytes.{append_known}
use Rattle.stream_compile.proofs.image_pieces.write_items.Given as goal

abbrev pub invariant-loop-from : goal.invariant-loop-from
invariant-loop-from g l = record {
  wrote : g.O.Sink.written l.out ≡ append_known (g.O.Sink.written l.fn.out) (flat_map g.T.FixedSize.encoding (take l.from l.items));
  same : g.O.Sink.faults l.out ≡ g.O.Sink.faults l.fn.out;
  most : l.from ≤ length l.items;
  open_now : g.O.Sink.is_open l.out ≡ true;
}

abbrev pub decreases-loop-from : goal.decreases-loop-from
decreases-loop-from g l = length l.items - l.from
