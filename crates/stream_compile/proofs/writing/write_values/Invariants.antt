use Rattle.std.proofs.Common.{◌≡◌, true, take}
use Rattle.std.specs.List.{flat_map}
use Rattle.std.specs.Io.KnownBytes.{append_known}
use Rattle.stream_compile.specs.Texts.{value_line}
use Rattle.stream_compile.proofs.writing.write_values.Given as goal

abbrev pub invariant-loop-index : goal.invariant-loop-index
invariant-loop-index g l = record {
  wrote : g.O.Sink.written l.out ≡ append_known (g.O.Sink.written l.fn.out) (flat_map value_line (take l.index l.fn.instance.results));
  same : g.O.Sink.faults l.out ≡ g.O.Sink.faults l.fn.out;
  open_now : g.O.Sink.is_open l.out ≡ true;
}
